use Rattle.std.proofs.Common.{ap, sym, ◌∙◌}
use Rattle.std.specs.FinMap as map
use Rattle.object_values.specs.Texts.{SourceStock}
use Rattle.object_values.proofs.PlaceLemmas.{found, missing}
use Rattle.object_values.proofs.BlockLemmas.{none_there, same_block, sorted_here, got_there, itself_at}
use Rattle.object_values.proofs.sources.Sources.get.Goals as goal

pub returns-in_err-block : goal.returns-in_err-block
returns-in_err-block c =
    let empty = sym c.deref.ensures.value ∙ c.in_err-block.ensures.none in
    rw c.from_residual.ensures (sym (ap (λ (s : SourceStock). map.get s.texts c.args.name.now) (sym c.self.view_is) ∙ none_there _ _ empty))

pub place_of-requires : goal.place_of-requires
place_of-requires c =
    let is = rw c.deref.ensures.value at c.in_ok-block.ensures.some in
    let here = same_block _ _ _ is.in_range c.index.ensures in
    rw (c.as_slice-pairs.ensures, here) (sorted_here _ c.self.invariant.sorted _ _ is)

pub returns-in-Ok : goal.returns-in-Ok
returns-in-Ok c =
    let is = rw c.deref.ensures.value at c.in_ok-block.ensures.some in
    let here = same_block _ _ _ is.in_range c.index.ensures in
    let at = rw (c.as_slice-pairs.ensures, here) at c.in-Ok.ensures.found in
    rw (c.as_slice-pairs.ensures, here) (sym (ap (λ (s : SourceStock). map.get s.texts c.args.name.now) (sym c.self.view_is) ∙ got_there _ c.self.invariant.sorted _ _ is ∙ found _ (sorted_here _ c.self.invariant.sorted _ _ is) _ _ at _ (itself_at _ _ _ at.in_range)))

pub returns-in-Err : goal.returns-in-Err
returns-in-Err c =
    let is = rw c.deref.ensures.value at c.in_ok-block.ensures.some in
    let here = same_block _ _ _ is.in_range c.index.ensures in
    let gap = rw (c.as_slice-pairs.ensures, here) at c.in-Err.ensures.gap in
    sym (ap (λ (s : SourceStock). map.get s.texts c.args.name.now) (sym c.self.view_is) ∙ got_there _ c.self.invariant.sorted _ _ is ∙ missing _ (sorted_here _ c.self.invariant.sorted _ _ is) _ _ gap)
