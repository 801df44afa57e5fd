use Rattle.std.proofs.Common.{◌∙◌, ap, arith, flat_map}
use Rattle.std.specs.Prelude.{option_to_list}
use Rattle.std.proofs.lemmas.List.{take_all}
use Rattle.object_values.specs.declared.graph.PartDecl.{PartDecl}
use Rattle.meaning_tasks.specs.Nodes.{onward_named}
use Rattle.node_tasks.proofs.NeedLemmas.{part_nodes_are}
use Rattle.node_tasks.proofs.needing.part_nodes.Goals as goal

pub returns : goal.returns
returns c =
    c.loop-part.invariant
    ∙ ap (flat_map (λ (p : PartDecl). option_to_list (onward_named c.args.planned.now c.in_ok-base.base p.of))) (take_all c.loop-part.part-index c.args.parts.now (omega arith))
    ∙ part_nodes_are c.args.planned.now c.args.node.now c.in_ok-base.base c.args.parts.now c.in_ok-base.ensures
