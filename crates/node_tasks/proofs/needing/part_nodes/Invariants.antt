use Rattle.std.proofs.Common.{◌≡◌, take, flat_map}
use Rattle.std.specs.Prelude.{option_to_list}
use Rattle.object_values.specs.declared.graph.PartDecl.{PartDecl}
use Rattle.meaning_tasks.specs.Nodes.{onward_named}
use Rattle.node_tasks.proofs.needing.part_nodes.Given as goal

abbrev pub invariant-loop-part : goal.invariant-loop-part
invariant-loop-part l = l.needs ≡ flat_map (λ (p : PartDecl). option_to_list (onward_named l.planned l.base p.of)) (take l.part-index l.parts)
