use Rattle.std.proofs.Common.{◌≡◌, ◌++◌, take, flat_map}
use Rattle.object_values.specs.declared.graph.MakerDecl.{MakerDecl}
use Rattle.meaning_tasks.specs.Tasks.{tool_task}
use Rattle.meaning_tasks.specs.Needs.{values_of, scan_needs}
use Rattle.node_tasks.proofs.needing.put_scans.Given as goal

abbrev pub invariant-loop-name : goal.invariant-loop-name
invariant-loop-name g l =
    (m : MakerDecl) → l.scans ≡ l.initial.scans ++ flat_map (scan_needs (tool_task l.planned l.node m l.tool) (values_of (g.R.Results.results l.seen))) (take l.name-index l.names)
