-- The answer to a text that asks for an object, and to one that asks for the steps to it, as
-- relations to replies.
use Rattle.std.specs.Prelude.{◌≡◌, ℕ, List, Some}
use Rattle.object_values.specs.declared.nodes.Node.{Node}
use Rattle.object_values.specs.declared.expressions.Expression.{Expression}
use Rattle.object_values.specs.declared.views.View.{View}
use Rattle.meaning_texts.specs.Expressions.{ExpressionText, IsFaultPlace}
use Rattle.meaning_graph.specs.Graphs.{Text, Graph}
use Rattle.meaning_tasks.specs.NodeOf.{is_node, unknown_param, unknown_type, no_path, node_of}
use Rattle.meaning_derive.specs.Derive.{Sources, Outcomes, derived}
use Rattle.meaning_derive.specs.Chains.{IsCircular, IsDeep}
use Rattle.object_values.specs.declared.replies.Reply.{Reply}
use Rattle.object_values.specs.declared.replies.Reply.TheVariants.{RefusedExpression, RefusedParam, RefusedType, RefusedPath}
use Rattle.meaning_derive.specs.Replies.{shown, refused_circular, refused_deep, plan_of}

-- The text is refused: it is no expression, or its expression has no node.
pub data Refused (g : Graph) : Text → Reply → Type 0 where
  expression : (text : Text) (place : ℕ) → IsFaultPlace text place
      → Refused g text (RefusedExpression place)
  param : (text : Text) (e : Expression) (name : Text) → ExpressionText text e
      → node_of g e ≡ unknown_param name → Refused g text (RefusedParam name)
  type : (text : Text) (e : Expression) (name : Text) → ExpressionText text e
      → node_of g e ≡ unknown_type name → Refused g text (RefusedType name)
  path : (text : Text) (e : Expression) (step : ℕ) → ExpressionText text e
      → node_of g e ≡ no_path step → Refused g text (RefusedPath step)

-- The text is one of an expression of this node.
pub record Asks (g : Graph) (text : Text) (n : Node) : Type 0 where
  pub expression : Expression
  pub is : ExpressionText text expression
  pub node : node_of g expression ≡ is_node n

-- The answer: a refusal, what is derived, or a chain of the node.
pub data Answer (g : Graph) (s : Sources) (outcomes : Outcomes) : Text → Reply → Type 0 where
  refused : (text : Text) (reply : Reply) → Refused g text reply → Answer g s outcomes text reply
  object : (text : Text) (n : Node) (view : View) → Asks g text n
      → derived g s outcomes n ≡ Some view → Answer g s outcomes text (shown g view)
  circular : (text : Text) (n : Node) (chain : List Node) → Asks g text n
      → IsCircular g (derived g s outcomes) n chain
      → Answer g s outcomes text (refused_circular g chain)
  deep : (text : Text) (n : Node) (chain : List Node) → Asks g text n
      → IsDeep g (derived g s outcomes) n chain → Answer g s outcomes text (refused_deep g chain)

-- The steps to the node, or the refusal.
pub data Plan (g : Graph) : Text → Reply → Type 0 where
  refused_plan : (text : Text) (reply : Reply) → Refused g text reply → Plan g text reply
  steps : (text : Text) (n : Node) → Asks g text n → Plan g text (plan_of g n)
