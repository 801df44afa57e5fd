use Rattle.std.proofs.Common.{◌≡◌, take}
use Rattle.object_values.proofs.block.Block.copy.Given as goal

abbrev pub invariant-loop-name : goal.invariant-loop-name
invariant-loop-name l = l.copy ≡ take l.name-index l.name-items
