-- Each name was told its lines, and fewer and fewer are left.
use Rattle.std.proofs.Common.{length}
use Rattle.object_values.specs.declared.graph.MakerDecl.{MakerDecl}
use Rattle.meaning_tasks.specs.Tasks.{tool_task, tooled}
use Rattle.meaning_tasks.specs.Needs.{values_of, own_lines, other_lines}
use Rattle.dynamic_inputs.proofs.Lemmas.{untold_of}
use Rattle.node_tasks.proofs.NameLemmas.{Tells}
use Rattle.node_tasks.proofs.ListedLemmas.{all_names}
use Rattle.node_tasks.proofs.names.names_of_tool.Given as goal

abbrev pub invariant-told : goal.invariant-told
invariant-told g l =
    (m : MakerDecl) → Tells l.node.source (own_lines (tooled (tool_task l.planned l.node m l.tool)) (values_of (g.R.Results.results l.seen)))
    (other_lines (tooled (tool_task l.planned l.node m l.tool)) (values_of (g.R.Results.results l.seen))) l.closure

abbrev pub decreases-told : goal.decreases-told
decreases-told g l = length (untold_of (all_names l.planned l.node l.tool (g.R.Results.results l.seen) (g.R.Results.nodes l.seen)) l.closure)
