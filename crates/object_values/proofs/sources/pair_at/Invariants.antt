use Rattle.std.proofs.Common.{◌≡◌, drop, slice_get}
use Rattle.object_values.specs.Blocks.{joined}
use Rattle.object_values.proofs.sources.pair_at.Given as goal

abbrev pub invariant-loop-block : goal.invariant-loop-block
invariant-loop-block l = slice_get (joined (drop l.block-index l.blocks)) l.left ≡ slice_get (joined l.blocks) l.place
