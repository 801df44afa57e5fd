-- A node that is made step by step.
use Rattle.std.specs.Prelude.{◌≡◌, List, [], Some}
use Rattle.object_values.specs.declared.nodes.ParamValue.{ParamValue}
use Rattle.object_values.specs.declared.nodes.Node.{Node}
use Rattle.meaning_graph.specs.Graphs.{Text, Graph}
use Rattle.meaning_tasks.specs.Nodes.{reached_type}
use Rattle.meaning_tasks.specs.NodeOf.{NodeAnswer, is_node}
use Rattle.odin_nodes.specs.declared.making.Reached.{Reached}

-- a source with parameters and no steps
abbrev pub bare_source : Text → List ParamValue → Node
bare_source source params = record { source = source; params = params; steps = [] }

-- the type is the one to which the steps lead
abbrev pub IsTyped : Graph → Reached → Type 0
IsTyped g reached = reached_type g reached.node ≡ Some reached.at

-- The node is what came of a step, with the type to which its steps lead.
pub record IsMade (g : Graph) (answer : NodeAnswer) (reached : Reached) : Type 0 where
  pub node : answer ≡ is_node reached.node
  pub typed : IsTyped g reached
