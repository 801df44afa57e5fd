-- Labels and texts of nodes, and the texts of their own messages.
use Rattle.std.specs.Prelude.{ℕ, [], ◌++◌, map, Option, Some, None, slice_get, codes, decimal}
use Rattle.object_values.specs.declared.messages.Status.TheVariants.{Abort}
use Rattle.object_values.specs.declared.messages.Message.{Message}
use Rattle.object_values.specs.declared.nodes.Step.{Step}
use Rattle.object_values.specs.declared.nodes.Step.TheVariants.{Maker, Pick}
use Rattle.object_values.specs.declared.nodes.Node.{Node}
use Rattle.object_values.specs.declared.expressions.ExprStep.{ExprStep}
use Rattle.object_values.specs.declared.expressions.ExprStep.TheVariants.{To, Pick as PickStep}
use Rattle.object_values.specs.declared.expressions.Expression.{Expression}
use Rattle.object_values.specs.declared.graph.MakerDecl.{MakerDecl}
use Rattle.meaning_texts.specs.Expressions.{spelling}
use Rattle.meaning_graph.specs.Graphs.{Text, Graph, makers}

abbrev pub made_name : Option MakerDecl → Text
made_name None = []
made_name (Some m) = m.to

-- a maker is written as the type that it makes
abbrev pub written_step : Graph → Step → ExprStep
written_step g (Maker k) = To (made_name (slice_get (makers g) k))
written_step g (Pick key) = PickStep key

abbrev pub node_expression : Graph → Node → Expression
node_expression g n = record { source = n.source; params = n.params; steps = map (written_step g) n.steps }

-- the text of a node: the canonical spelling
abbrev pub node_text : Graph → Node → Text
node_text g n = spelling (node_expression g n)

-- the label of a node: its text without parameters
abbrev pub label_of : Graph → Node → Text
label_of g n = node_text g (record n { params = [] })

-- ---- own messages

-- a message of the node at `Abort`
abbrev pub abort_message : Text → Text → Message
abort_message label text = record { label = label; level = Abort; text = text }

abbrev pub no_source : Text → Text
no_source name = codes "no source " ++ name

abbrev pub no_element : Text → Text
no_element key = codes "no element " ++ key

abbrev pub no_path : Text → Text
no_path name = codes "no path " ++ name

abbrev pub too_many_references : Text
too_many_references = codes "too many references"

-- what is wrong with the line of that number
abbrev pub at_line : ℕ → Text → Text
at_line number fault = codes "line " ++ decimal number ++ codes ": " ++ fault
