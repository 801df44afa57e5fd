-- The lemmas that other crates may cite.
use Rattle.std.proofs.Common.{List, ◌++◌, map, refl}
use Rattle.object_values.specs.declared.nodes.Node.{Node}
use Rattle.meaning_graph.specs.Graphs.{Graph}
use Rattle.meaning_tasks.specs.Nodes.{source_node}
use Rattle.meaning_tasks.specs.Needs.{Results, Needs, values_of}
use Rattle.task_needs.specs.Counting.{nodes_in}
use Rattle.node_tasks.specs.declared.needed.Needed.{Needed}
use Rattle.node_tasks.specs.Needed.{IsNeeded}
use Rattle.node_tasks.proofs.NeedLemmas.{needs_are}
-- What was told ahead, as results are added.
pub use Rattle.node_tasks.proofs.AheadLemmas.{ahead_stays}

-- the needs one by one, for whom they were found
abbrev pub needs_in : Results → Needed → List Node
needs_in seen needed = nodes_in (values_of seen) needed.counted ++ map source_node needed.names

pub needs_listed : (g : Graph) (n : Node) (seen : Results) (needed : Needed) → IsNeeded g n seen needed → Needs g n seen (needs_in seen needed)
needs_listed g n seen needed found = needs_are g n seen needed.names (nodes_in (values_of seen) needed.counted) (needs_in seen needed) found.reached found.counted refl
