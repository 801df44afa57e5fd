use Rattle.std.proofs.Common.{◌+◌, drop}
use Rattle.call_layout.specs.Layout.{HoldsFirst}
use Rattle.call_layout.proofs.layout.Firsts.new.Given as goal

abbrev pub invariant-loop-place : goal.invariant-loop-place
invariant-loop-place l = HoldsFirst l.numbers (l.place + 1) (drop l.place l.parts)
