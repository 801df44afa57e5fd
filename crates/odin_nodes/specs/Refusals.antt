-- Why an expression has no node.
use Rattle.std.specs.Prelude.{◌≡◌, ⊤}
use Rattle.object_values.specs.declared.expressions.Expression.{Expression}
use Rattle.meaning_graph.specs.Graphs.{Graph}
use Rattle.meaning_tasks.specs.NodeOf.{NodeAnswer, unknown_param, unknown_type, no_path, node_of}
use Rattle.odin_nodes.specs.declared.fault.NodeFault.{NodeFault}
use Rattle.odin_nodes.specs.declared.fault.NodeFault.TheVariants.{UnknownParam, UnknownType, NoPath, Memory}

-- The fault is what came instead of a node. Nothing is said of want of memory.
abbrev pub IsFaultOfAnswer : NodeAnswer → NodeFault → Type 0
IsFaultOfAnswer answer (UnknownParam name) = answer ≡ unknown_param name
IsFaultOfAnswer answer (UnknownType name) = answer ≡ unknown_type name
IsFaultOfAnswer answer (NoPath number) = answer ≡ no_path number
IsFaultOfAnswer answer Memory = ⊤

-- the same of what comes of an expression
abbrev pub IsNodeRefusal : Graph → Expression → NodeFault → Type 0
IsNodeRefusal g e = IsFaultOfAnswer (node_of g e)
