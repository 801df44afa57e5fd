-- What the laws of answers say.
use Rattle.std.specs.Prelude.{◌≡◌, ◌⊎◌, List, Some, None, IsSome}
use Rattle.object_values.specs.declared.nodes.Node.{Node}
use Rattle.object_values.specs.declared.views.View.{View}
use Rattle.object_values.specs.declared.calls.Call.{Call}
use Rattle.meaning_graph.specs.Graphs.{Text, Graph}
use Rattle.meaning_derive.specs.Derive.{Sources, Outcomes, derived}
use Rattle.meaning_derive.specs.Chains.{IsCircular, IsDeep}
use Rattle.object_values.specs.declared.replies.Reply.{Reply}
use Rattle.meaning_derive.specs.Replies.{shown, refused_circular, refused_deep}
use Rattle.meaning_derive.specs.Answers.{Refused, Asks, Answer, Plan}

-- Where each call has an outcome, each text has an answer; and each text has a plan.
abbrev pub EachIsAnswered : Type 0
EachIsAnswered =
    (g : Graph) (s : Sources) (outcomes : Outcomes) → ((call : Call) → IsSome (outcomes call))
    → (text : Text) → (reply : Reply) × Answer g s outcomes text reply

abbrev pub EachHasPlan : Type 0
EachHasPlan = (g : Graph) (text : Text) → (reply : Reply) × Plan g text reply

-- A node that has a result is answered by that alone.
abbrev pub FoundedIsShown : Type 0
FoundedIsShown =
    (g : Graph) (s : Sources) (outcomes : Outcomes) (text : Text) (reply : Reply) (n : Node)
    (view : View) → Asks g text n → derived g s outcomes n ≡ Some view
    → Answer g s outcomes text reply → reply ≡ shown g view

-- The reply shows a chain of the node.
pub data ShowsChain (g : Graph) (s : Sources) (outcomes : Outcomes) (n : Node) : Reply → Type 0 where
  circular_chain : (chain : List Node) → IsCircular g (derived g s outcomes) n chain
      → ShowsChain g s outcomes n (refused_circular g chain)
  deep_chain : (chain : List Node) → IsDeep g (derived g s outcomes) n chain
      → ShowsChain g s outcomes n (refused_deep g chain)

-- A node that has no result is answered by a chain alone.
abbrev pub OthersAreChained : Type 0
OthersAreChained =
    (g : Graph) (s : Sources) (outcomes : Outcomes) (text : Text) (reply : Reply) (n : Node)
    → Asks g text n → derived g s outcomes n ≡ None → Answer g s outcomes text reply
    → ShowsChain g s outcomes n reply

-- A refused text has only that refusal, and a text one plan.
abbrev pub RefusalIsOne : Type 0
RefusalIsOne =
    (g : Graph) (text : Text) (reply other : Reply) → Refused g text reply
    → Refused g text other → other ≡ reply

abbrev pub PlanIsOne : Type 0
PlanIsOne =
    (g : Graph) (text : Text) (reply other : Reply) → Plan g text reply → Plan g text other
    → other ≡ reply

-- Both replies show chains of the node of the text.
pub record BothShowChains (g : Graph) (s : Sources) (outcomes : Outcomes) (text : Text)
    (reply other : Reply) : Type 0 where
  pub node : Node
  pub asked : Asks g text node
  pub one : ShowsChain g s outcomes node reply
  pub another : ShowsChain g s outcomes node other

-- A text has one answer, but for the choice of the chain.
abbrev pub AnswerIsUnique : Type 0
AnswerIsUnique =
    (g : Graph) (s : Sources) (outcomes : Outcomes) (text : Text) (reply other : Reply)
    → Answer g s outcomes text reply → Answer g s outcomes text other
    → (other ≡ reply) ⊎ BothShowChains g s outcomes text reply other
