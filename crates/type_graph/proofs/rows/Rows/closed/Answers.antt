-- The rows begin with each type alone, and are closed.
use Rattle.std.proofs.Common.{◌≡◌, ◌∙◌, ◌+◌, ◌/◌, refl, sym, subst, length}
use Rattle.std.specs.Vec.{with_items}
use Rattle.std.proofs.lemmas.List.{with_items_is}
use Rattle.type_graph.specs.Rows.{IsCloser}
use Rattle.type_graph.proofs.ClosingLemmas.{closed_answers}
use Rattle.type_graph.proofs.rows.Rows.closed.Goals as goal

pub returns : goal.returns
returns c =
    let width = length c.args.supers.now / 64 + 1 in
    let begun = with_items c.in_ok-words.words c.mark_own.new.words in
    let long : length c.close.new.words ≡ c.in_ok-words.words.len = c.close.ensures.fits.sized ∙ sym c.in_ok-words.ensures.len in
    let closer = subst (IsCloser c.args.supers.now width) (sym (with_items_is begun c.close.new.words long)) c.close.ensures in
    record { counted = refl; fits = closer.fits; right = closed_answers c.args.supers.now width (with_items begun c.close.new.words).items closer }
