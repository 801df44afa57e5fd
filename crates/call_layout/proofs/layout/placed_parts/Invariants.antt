use Rattle.std.proofs.Common.{◌≡◌, take}
use Rattle.call_layout.specs.Layout.{placed_from}
use Rattle.call_layout.proofs.layout.placed_parts.Given as goal

abbrev pub invariant-loop-place : goal.invariant-loop-place
invariant-loop-place l = l.placed ≡ placed_from l.parts 1 (take l.place l.parts)
