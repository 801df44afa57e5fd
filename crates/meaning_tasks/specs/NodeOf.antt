-- The node of an expression, or the first refusal: an unknown parameter, then step by step an
-- unknown type or a step that can't be made.
use Rattle.std.specs.Prelude.{ℕ, ◌+◌, cond, not, List, [], ◌∷◌, Option, Some, None, is_some, find}
use Rattle.object_values.specs.declared.nodes.ParamValue.{ParamValue}
use Rattle.object_values.specs.declared.nodes.Step.TheVariants.{Pick as PickKey}
use Rattle.object_values.specs.declared.nodes.Node.{Node}
use Rattle.object_values.specs.declared.expressions.ExprStep.{ExprStep}
use Rattle.object_values.specs.declared.expressions.ExprStep.TheVariants.{To, Pick}
use Rattle.object_values.specs.declared.expressions.Expression.{Expression}
use Rattle.meaning_graph.specs.Graphs.{Text, Graph, type_named, has_param}
use Rattle.meaning_tasks.specs.Nodes.{node_with_step, reached_type, onward}

-- a node, the name of a parameter or of a type, or the number of a step from 1
pub data NodeAnswer : Type 0 where
  is_node : Node → NodeAnswer
  unknown_param : Text → NodeAnswer
  unknown_type : Text → NodeAnswer
  no_path : ℕ → NodeAnswer

abbrev pub node_or_no_path : ℕ → Option Node → NodeAnswer
node_or_no_path k None = no_path k
node_or_no_path k (Some n) = is_node n

abbrev pub toward : Graph → Node → ℕ → Text → Option ℕ → NodeAnswer
toward g n k name None = unknown_type name
toward g n k name (Some to) = node_or_no_path k (onward g n to)

-- the node after step k: a type by the chosen path from the type reached so far, a key by one pick
abbrev pub step_on : Graph → Node → ℕ → ExprStep → NodeAnswer
step_on g n k (To name) = toward g n k name (type_named g name)
step_on g n k (Pick key) =
    cond (is_some (reached_type g (node_with_step n (PickKey key)))) (is_node (node_with_step n (PickKey key)))
    (no_path k)

-- the node after the steps from number k on; a refusal stays
abbrev pub steps_on : Graph → ℕ → NodeAnswer → List ExprStep → NodeAnswer
steps_on g k answer [] = answer
steps_on g k (is_node n) (s ∷ steps) = steps_on g (k + 1) (step_on g n k s) steps
steps_on g k refusal (s ∷ steps) = refusal

-- a parameter that the graph doesn't declare, the first in the order of the expression
abbrev pub unknown_in : Graph → List ParamValue → Option ParamValue
unknown_in g params = find (λ p. not (has_param g p.param)) params

abbrev pub of_known : Graph → Expression → Option ParamValue → NodeAnswer
of_known g e None =
    steps_on g 1 (is_node (record { source = e.source; params = e.params; steps = [] })) e.steps
of_known g e (Some p) = unknown_param p.param

unfoldable pub node_of : Graph → Expression → NodeAnswer
node_of g e = of_known g e (unknown_in g e.params)
