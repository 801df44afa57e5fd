-- What the worked examples of nodes stand on.
use Rattle.std.specs.Prelude.{List, [], Option, option_map}
use Rattle.object_values.specs.declared.nodes.ParamValue.{ParamValue}
use Rattle.object_values.specs.declared.nodes.Step.{Step}
use Rattle.object_values.specs.declared.nodes.Node.{Node}
use Rattle.meaning_texts.specs.Reading.{expression_of}
use Rattle.meaning_graph.specs.Graphs.{Text, Graph}
use Rattle.meaning_tasks.specs.NodeOf.{NodeAnswer, node_of}

-- the node of a text, or its refusal
abbrev pub ex_node_in : Graph → Text → Option NodeAnswer
ex_node_in g text = option_map (node_of g) (expression_of text)

abbrev pub at_steps : Text → List Step → Node
at_steps source steps = record { source = source; params = []; steps = steps }

abbrev pub parameter : Text → ParamValue
parameter name = record { param = name; value = [] }
