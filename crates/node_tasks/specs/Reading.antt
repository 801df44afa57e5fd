-- The lines of a reference list, one after another.
use Rattle.std.specs.Prelude.{⊤, ◌^◌, ◌<◌, ℕ, [], length, All, codes}
use Rattle.object_values.specs.declared.nodes.Node.{Node}
use Rattle.object_values.specs.declared.expressions.Line.{Line}
use Rattle.object_values.specs.declared.expressions.Line.TheVariants.{Good, Bad}
use Rattle.object_values.specs.declared.expressions.Lines.{Lines}
use Rattle.object_values.specs.declared.expressions.Lines.TheVariants.{These, TooMany}
use Rattle.meaning_graph.specs.Graphs.{Text, Graph}
use Rattle.meaning_tasks.specs.Labels.{label_of, abort_message, at_line}
use Rattle.meaning_tasks.specs.NodeOf.{NodeAnswer}
use Rattle.meaning_tasks.specs.Tasks.{Led, unless_node, answer_node, answer_fault}
use Rattle.odin_nodes.specs.declared.fault.NodeFault.{NodeFault}
use Rattle.odin_nodes.specs.declared.fault.NodeFault.TheVariants.{UnknownParam, UnknownType, NoPath, Memory}

-- where the line of this number leads, by the answer to its expression
abbrev pub answer_led : Graph → Node → Text → ℕ → NodeAnswer → Led
answer_led g n of number answer = record {
  node = answer_node g n of answer;
  missing =
      unless_node (abort_message (label_of g n) (at_line number (answer_fault answer)))
      (answer_node g n of answer);
}

-- what is told of a fault
abbrev pub fault_text : NodeFault → Text
fault_text (UnknownParam name) = codes "unknown parameter"
fault_text (UnknownType name) = codes "unknown type"
fault_text (NoPath number) = codes "no path"
fault_text Memory = []

-- the steps of the line can be numbered
abbrev pub HasFewSteps : Line → Type 0
HasFewSteps (Good number e) = length e.steps < 2 ^ 32
HasFewSteps (Bad number) = ⊤

abbrev pub AreOfFewSteps : Lines → Type 0
AreOfFewSteps (These lines) = All HasFewSteps lines
AreOfFewSteps TooMany = ⊤
