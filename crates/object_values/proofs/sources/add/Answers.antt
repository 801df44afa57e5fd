use Rattle.std.proofs.Common.{arith, ap, slice_set, ◌∙◌}
use Rattle.object_values.specs.Blocks.{joined}
use Rattle.object_values.specs.Places.{Pairs}
use Rattle.object_values.proofs.BlockLemmas.{same_block, joined_split, filled_split, filled_set, some_inserted}
use Rattle.object_values.proofs.sources.add.Goals as goal

pub returns-in_default-clause-filled : goal.returns-in_default-clause-filled
returns-in_default-clause-filled c = λ filled. filled_set _ _ _ filled (rw c.in_default.ensures.ok (some_inserted _ _ _))

pub returns-in-Some-clause-added : goal.returns-in-Some-clause-added
returns-in-Some-clause-added c =
    let here = same_block _ _ _ c.requires.at c.index_mut-block.ensures.value in
    let parts = rw (c.in-Err.ensures.same, here, c.in-Err.ensures.back) at c.split-rest.ensures.parts in
    rw c.insert_within.ensures.items (joined_split _ _ _ _ _ c.requires.at (omega arith) ∙ ap (λ (block : Pairs). joined (slice_set c.args.blocks.now.items c.args.at block)) parts)

pub returns-in-Some-clause-filled : goal.returns-in-Some-clause-filled
returns-in-Some-clause-filled c = λ filled. rw c.insert_within.ensures.items (filled_split _ _ _ _ _ c.requires.at (omega arith) filled c.split-rest.ensures.first c.split-rest.ensures.last)
