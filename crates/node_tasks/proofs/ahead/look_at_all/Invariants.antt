-- Lines lead to all names, what was put comes into sight, and fewer and fewer names are left.
use Rattle.object_values.specs.declared.graph.MakerDecl.{MakerDecl}
use Rattle.meaning_tasks.specs.Tasks.{tool_task, tooled}
use Rattle.meaning_tasks.specs.Needs.{values_of}
use Rattle.node_tasks.specs.Ahead.{AreLed, IsOfLevel}
use Rattle.node_tasks.proofs.ListedLemmas.{all_names, left_over}
use Rattle.node_tasks.proofs.ahead.look_at_all.Given as goal

abbrev pub invariant-loop-place : goal.invariant-loop-place
invariant-loop-place g l = record {
  led : (m : MakerDecl) → AreLed (tooled (tool_task l.planned l.node m l.tool)) (values_of (g.R.Results.results l.seen)) l.names;
  level : (m : MakerDecl) → IsOfLevel (tooled (tool_task l.planned l.node m l.tool)) (values_of (g.R.Results.results l.seen)) (g.V.VisitedNodes.visited l.visited) l.level;
}

abbrev pub invariant-names : goal.invariant-names
invariant-names g l = record {
  led : (m : MakerDecl) → AreLed (tooled (tool_task l.planned l.node m l.tool)) (values_of (g.R.Results.results l.seen)) l.names;
  level : (m : MakerDecl) → IsOfLevel (tooled (tool_task l.planned l.node m l.tool)) (values_of (g.R.Results.results l.seen)) (g.V.VisitedNodes.visited l.visited) l.level;
}

abbrev pub decreases-names : goal.decreases-names
decreases-names g l = left_over (all_names l.planned l.node l.tool (g.R.Results.results l.seen) (g.R.Results.nodes l.seen)) l.names l.place
