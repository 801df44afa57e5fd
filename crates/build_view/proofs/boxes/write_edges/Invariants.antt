use Rattle.std.proofs.Common.{◌≡◌, ◌++◌, take}
use Rattle.std.specs.List.{flat_map}
use Rattle.build_view.specs.Boxes.{edge_of}
use Rattle.build_view.proofs.boxes.write_edges.Given as goal

abbrev pub invariant-loop-edge : goal.invariant-loop-edge
invariant-loop-edge l = l.out ≡ l.initial.out ++ flat_map edge_of (take l.edge-index l.edges)
