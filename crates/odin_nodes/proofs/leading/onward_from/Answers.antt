-- The type that is reached is there.
use Rattle.std.proofs.Common.{◌∙◌, ap, sym}
use Rattle.meaning_graph.specs.Graphs.{Graph}
use Rattle.meaning_tasks.specs.Nodes.{reached_type}
use Rattle.odin_nodes.proofs.TypeLemmas.{reached_below}
use Rattle.odin_nodes.proofs.leading.onward_from.Goals as goal

pub direct-requires-clause-from : goal.direct-requires-clause-from
direct-requires-clause-from c =
    reached_below c.args.planned.now c.args.node c.in-Some-reached_type.at
    (ap (λ (g : Graph). reached_type g c.args.node) (sym c.graph-graph.ensures) ∙ sym c.in-Some-reached_type.ensures)

pub plan-requires-clause-from : goal.plan-requires-clause-from
plan-requires-clause-from c =
    reached_below c.args.planned.now c.args.node c.in-Some-reached_type.at
    (ap (λ (g : Graph). reached_type g c.args.node) (sym c.graph-graph.ensures) ∙ sym c.in-Some-reached_type.ensures)
