use Rattle.std.proofs.Common.{◌≡◌, cond, length, ap, ◌∙◌, rules}
use Rattle.std.specs.Prelude.{Some, nat_eq}
use Rattle.std.specs.Cmp.Lexicographic.{pointwise}
use Rattle.std.specs.HashMap.{get}
use Rattle.object_values.specs.declared.views.Value.TheVariants.{Simple}
use Rattle.kept_contents.specs.declared.shared.Content.TheVariants.{Text}
use Rattle.kept_contents.specs.Stocks.{values_of_contents}
use Rattle.kept_contents.proofs.AddedPlaces.{placed_more}
use Rattle.kept_contents.proofs.Contents.{values_push}
use Rattle.kept_contents.proofs.IndexLemmas.{index_stays}
use Rattle.kept_contents.proofs.added.AddedContents.push_text.Goals as goal

pub invariant_of-self-2 : goal.invariant_of-self-2
invariant_of-self-2 c =
    let items = c.self.inside.contents.items in
    let place : c.len-place.result ≡ length items = search rules in
    let places = get nat_eq c.self.inside.places in
    let next = get nat_eq c.insert.new.self in
    let id = c.args.shared.id in (
      rw (c.push_within.ensures.items, c.reserve.ensures.items) (placed_more items c.args.shared places next (λ k. c.in_ok-insert.ensures.updates.0 k ∙ ap (λ n. cond (nat_eq id k) (Some n) (places k)) place) c.self.invariant.0),
      rw (c.push_within.ensures.items, c.reserve.ensures.items, values_push items (Text c.args.shared)) (index_stays (values_of_contents items) (get (pointwise nat_eq) c.self.inside.others.first) c.self.inside.others.clashing.items c.self.invariant.1 (Simple c.args.shared.text) (λ other. absurd other)),
    )
