use Rattle.std.proofs.Common.{◌≡◌, ◌++◌, take}
use Rattle.std.specs.List.{flat_map}
use Rattle.build_view.specs.Boxes.{light}
use Rattle.build_view.proofs.boxes.write_lights.Given as goal

abbrev pub invariant-loop-object : goal.invariant-loop-object
invariant-loop-object l = l.out ≡ l.initial.out ++ flat_map light (take l.object-index l.boxes)
