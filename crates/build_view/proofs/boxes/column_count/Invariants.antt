use Rattle.std.proofs.Common.{◌≡◌, ◌<◌, ◌^◌, take}
use Rattle.build_view.specs.Boxes.{column_count}
use Rattle.build_view.proofs.boxes.column_count.Given as goal

abbrev pub invariant-loop-object : goal.invariant-loop-object
invariant-loop-object l = (l.count ≡ column_count (take l.object-index l.boxes)) × (l.count < 2 ^ 33)
