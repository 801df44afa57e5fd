use Rattle.std.proofs.Common.{drop}
use Rattle.tool_calls.specs.Left.{HoldsFirst}
use Rattle.tool_calls.proofs.left.Left.new.Given as goal

abbrev pub invariant-loop-place : goal.invariant-loop-place
invariant-loop-place l = HoldsFirst l.bodies (drop l.place l.files)
