use Rattle.std.proofs.Common.{rules, arith, ◌<◌, ◌≤◌, length}
use Rattle.object_values.proofs.BlockLemmas.{in_block, past_block}
use Rattle.object_values.proofs.sources.pair_at.Goals as goal

pub returns-then-left-len : goal.returns-then-left-len
returns-then-left-len c =
    let below : c.loop-block.block-index < length c.args.blocks.now = search rules in
    let lt : c.loop-block.left < length c.block-item.result = search rules in
    let same = rw c.as_slice.ensures at c.index-as_slice-left.is in
    in_block _ _ _ _ _ below c.block-item.is c.loop-block.invariant _ lt same

pub loop-block-preserved : goal.loop-block-preserved
loop-block-preserved c =
    let below : c.loop-block.block-index < length c.args.blocks.now = search rules in
    let many : length c.block-item.result ≤ c.loop-block.left = search rules in
    past_block _ _ _ _ _ below c.block-item.is c.loop-block.invariant _ _ (omega arith) (omega (arith, many, c.len-left.ensures))
