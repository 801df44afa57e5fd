-- What a node needs, found once.
use Rattle.std.specs.Prelude.{◌≡◌}
use Rattle.object_values.specs.declared.nodes.Node.{Node}
use Rattle.meaning_graph.specs.Graphs.{Graph}
use Rattle.meaning_tasks.specs.Tasks.{task_of}
use Rattle.meaning_tasks.specs.Needs.{Results, values_of, counted_needs, ReachedNames}
use Rattle.task_needs.specs.Counting.{nodes_in}
use Rattle.node_tasks.specs.declared.needed.Needed.{Needed}

-- What the node needs by these results: its reached names, and its needs but the reached sources.
pub record IsNeeded (g : Graph) (n : Node) (seen : Results) (needed : Needed) : Type 0 where
  pub reached : ReachedNames g n seen needed.names
  pub counted : nodes_in (values_of seen) needed.counted
      ≡ counted_needs (task_of g n) (values_of seen) needed.names
