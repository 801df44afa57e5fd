use Rattle.std.proofs.Common.{ap, sym, Some, ◌∙◌}
use Rattle.std.specs.FinMap as map
use Rattle.object_values.specs.Texts.{SourceStock, Text}
use Rattle.object_values.proofs.PlaceLemmas.{found, missing}
use Rattle.object_values.proofs.BlockLemmas.{none_there, none_removed_of_none, none_removed, same_block, sorted_here, got_there, itself_at, after_removed}
use Rattle.object_values.proofs.sources.Sources.remove.Goals as goal

pub returns-in_err-block-clause-before : goal.returns-in_err-block-clause-before
returns-in_err-block-clause-before c =
    let empty = sym c.deref.ensures.value ∙ c.in_err-block.ensures.none in
    rw c.from_residual.ensures (sym (ap (λ (s : SourceStock). map.get s.texts c.args.name.now) (sym c.self.view_is) ∙ none_there _ _ empty))

pub returns-in_err-block-clause-removed : goal.returns-in_err-block-clause-removed
returns-in_err-block-clause-removed c =
    let empty = sym c.deref.ensures.value ∙ c.in_err-block.ensures.none in
    sym (ap (λ (s : SourceStock). s.texts) c.self.view_is) ∙ none_removed_of_none _ _ empty ∙ ap (λ (s : SourceStock). map.remove s.texts c.args.name.now) c.self.view_is

pub place_of-requires : goal.place_of-requires
place_of-requires c =
    let is = rw c.deref.ensures.value at c.in_ok-block.ensures.some in
    let here = same_block _ _ _ is.in_range c.index.ensures in
    rw (c.as_slice.ensures, here) (sorted_here _ c.self.invariant.sorted _ _ is)

pub invariant_of-self : goal.invariant_of-self
invariant_of-self c =
    let is = rw c.deref.ensures.value at c.in_ok-block.ensures.some in
    let here = same_block _ _ _ is.in_range c.index.ensures in
    let at = rw (c.as_slice.ensures, here) at c.in-Ok.ensures.found in
    (after_removed _ _ _ c.self.invariant _ _ is _ at _ c.take_out.ensures.removed c.take_out.ensures.filled).0

pub returns-in-Ok-clause-before : goal.returns-in-Ok-clause-before
returns-in-Ok-clause-before c =
    let is = rw c.deref.ensures.value at c.in_ok-block.ensures.some in
    let here = same_block _ _ _ is.in_range c.index.ensures in
    let at = rw (c.as_slice.ensures, here) at c.in-Ok.ensures.found in
    ap (λ (text : Text). Some text) c.take_out.ensures.before
    ∙ sym (ap (λ (s : SourceStock). map.get s.texts c.args.name.now) (sym c.self.view_is) ∙ got_there _ c.self.invariant.sorted _ _ is ∙ found _ (sorted_here _ c.self.invariant.sorted _ _ is) _ _ at _ (itself_at _ _ _ at.in_range))

pub returns-in-Ok-clause-removed : goal.returns-in-Ok-clause-removed
returns-in-Ok-clause-removed c =
    let is = rw c.deref.ensures.value at c.in_ok-block.ensures.some in
    let here = same_block _ _ _ is.in_range c.index.ensures in
    let at = rw (c.as_slice.ensures, here) at c.in-Ok.ensures.found in
    (after_removed _ _ _ c.self.invariant _ _ is _ at _ c.take_out.ensures.removed c.take_out.ensures.filled).1 ∙ ap (λ (s : SourceStock). map.remove s.texts c.args.name.now) c.self.view_is

pub returns-in-Err-clause-before : goal.returns-in-Err-clause-before
returns-in-Err-clause-before c =
    let is = rw c.deref.ensures.value at c.in_ok-block.ensures.some in
    let here = same_block _ _ _ is.in_range c.index.ensures in
    let gap = rw (c.as_slice.ensures, here) at c.in-Err.ensures.gap in
    sym (ap (λ (s : SourceStock). map.get s.texts c.args.name.now) (sym c.self.view_is) ∙ got_there _ c.self.invariant.sorted _ _ is ∙ missing _ (sorted_here _ c.self.invariant.sorted _ _ is) _ _ gap)

pub returns-in-Err-clause-removed : goal.returns-in-Err-clause-removed
returns-in-Err-clause-removed c =
    let is = rw c.deref.ensures.value at c.in_ok-block.ensures.some in
    let here = same_block _ _ _ is.in_range c.index.ensures in
    let gap = rw (c.as_slice.ensures, here) at c.in-Err.ensures.gap in
    sym (ap (λ (s : SourceStock). s.texts) c.self.view_is) ∙ none_removed _ c.self.invariant.sorted _ _ is _ gap ∙ ap (λ (s : SourceStock). map.remove s.texts c.args.name.now) c.self.view_is
