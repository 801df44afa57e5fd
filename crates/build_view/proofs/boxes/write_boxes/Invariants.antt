use Rattle.std.proofs.Common.{◌≡◌, ◌++◌, take}
use Rattle.std.specs.List.{flat_map}
use Rattle.build_view.specs.Boxes.{box_of}
use Rattle.build_view.proofs.boxes.write_boxes.Given as goal

abbrev pub invariant-loop-object : goal.invariant-loop-object
invariant-loop-object l = l.out ≡ l.initial.out ++ flat_map box_of (take l.object-index l.boxes)
