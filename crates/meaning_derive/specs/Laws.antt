-- What the laws of derivation say.
use Rattle.std.specs.Prelude.{◌≡◌, ◌↔◌, ◌⊎◌, ℕ, suc, ◌≤◌, List, Option, Some, None, IsSome}
use Rattle.object_values.specs.declared.messages.Status.TheVariants.{Abort}
use Rattle.object_values.specs.declared.nodes.Node.{Node}
use Rattle.object_values.specs.declared.views.View.{View}
use Rattle.object_values.specs.declared.calls.Call.{Call}
use Rattle.object_values.specs.declared.calls.Outcome.{Outcome}
use Rattle.object_values.specs.declared.jobs.Job.{Job}
use Rattle.object_values.specs.declared.jobs.Raw.{Raw}
use Rattle.meaning_texts.specs.Limits.{height_limit}
use Rattle.meaning_graph.specs.Graphs.{Graph}
use Rattle.meaning_texts.specs.Lists.{IsIn}
use Rattle.meaning_tasks.specs.Needs.{Results, Grows, Needs}
use Rattle.meaning_tasks.specs.Calls.{CallOf}
use Rattle.meaning_tasks.specs.Settle.{Settles}
use Rattle.meaning_derive.specs.Derive.{Sources, text_of, Outcomes, outcome_for, derive, derived, IsFounded, HasHeight}
use Rattle.meaning_derive.specs.Given.{OutcomesFit, table_outcomes}
use Rattle.meaning_derive.specs.Chains.{IsNeed, IsCircular, IsDeep, IsRefusal}
use Rattle.meaning_derive.specs.Calls.{IsCallFrom, IsFrontier}

-- The second has each outcome of the first.
abbrev pub HasMore : Outcomes → Outcomes → Type 0
HasMore outcomes more = (call : Call) (o : Outcome) → outcomes call ≡ Some o → more call ≡ Some o

-- Derive(h) is a part of Derive(h + 1).
abbrev pub DeriveGrows : Type 0
DeriveGrows =
    (g : Graph) (s : Sources) (outcomes : Outcomes) (h : ℕ)
    → Grows (derive g s outcomes h) (derive g s outcomes (suc h))

-- More outcomes give all that fewer give.
abbrev pub DeriveGrowsByCalls : Type 0
DeriveGrowsByCalls =
    (g : Graph) (s : Sources) (outcomes more : Outcomes) → HasMore outcomes more → (h : ℕ)
    → Grows (derive g s outcomes h) (derive g s more h)

-- The calls that are met from a node give its result: no other outcome is looked at.
abbrev pub CallsAreEnough : Type 0
CallsAreEnough =
    (g : Graph) (s : Sources) (outcomes kept : Outcomes) (n : Node)
    → ((call : Call) → IsCallFrom g (derived g s outcomes) n call → kept call ≡ outcomes call)
    → (view : View) → derived g s outcomes n ≡ Some view → derived g s kept n ≡ Some view

-- What a result one height up says: the needs, all with results, the call, its outcome, and the
-- view that the node settles to.
pub record IsSettled (g : Graph) (s : Sources) (outcomes : Outcomes) (h : ℕ) (n : Node)
    (view : View) : Type 0 where
  pub needs : List Node
  pub listed : Needs g n (derive g s outcomes h) needs
  pub known : (m : Node) → IsIn m needs → IsSome (derive g s outcomes h m)
  pub call : Option Call
  pub called : CallOf g n (derive g s outcomes h) call
  pub outcome : Option Outcome
  pub given : outcome_for outcomes call ≡ Some outcome
  pub settles : Settles g (text_of s) n (derive g s outcomes h) outcome view

-- Derivation goes by the relation Needs: there is a result one height up exactly where each need
-- has one, and the call, if there is one, has an outcome; and it is what the node settles to.
abbrev pub DeriveByNeeds : Type 0
DeriveByNeeds =
    (g : Graph) (s : Sources) (outcomes : Outcomes) (h : ℕ) (n : Node) (view : View)
    → (derive g s outcomes (suc h) n ≡ Some view) ↔ IsSettled g s outcomes h n view

-- The node has a list of needs, and a call or none.
pub record HasNeeds (g : Graph) (seen : Results) (n : Node) : Type 0 where
  pub needs : List Node
  pub listed : Needs g n seen needs
  pub call : Option Call
  pub called : CallOf g n seen call

-- Each node has needs at each height.
abbrev pub NeedsAreThere : Type 0
NeedsAreThere =
    (g : Graph) (s : Sources) (outcomes : Outcomes) (h : ℕ) (n : Node)
    → HasNeeds g (derive g s outcomes h) n

-- A node is founded exactly where it has no circular and no deep chain, where each call has an
-- outcome.
pub record IsFoundedOrChained (g : Graph) (s : Sources) (outcomes : Outcomes)
    (n : Node) : Type 0 where
  pub none : IsFounded g s outcomes n → (chain : List Node)
      → IsRefusal g (derived g s outcomes) n chain → ⊥
  pub one : IsFounded g s outcomes n
      ⊎ ((chain : List Node) × IsRefusal g (derived g s outcomes) n chain)

abbrev pub FoundedOrChained : Type 0
FoundedOrChained =
    (g : Graph) (s : Sources) (outcomes : Outcomes) → ((call : Call) → IsSome (outcomes call))
    → (n : Node) → IsFoundedOrChained g s outcomes n

-- How a derivation ends: with a result, at a call that has no outcome, or at a chain.
pub data EndOf (g : Graph) (s : Sources) (outcomes : Outcomes) (n : Node) : Type 0 where
  at_result : IsFounded g s outcomes n → EndOf g s outcomes n
  at_call : (call : Call) → IsFrontier g s outcomes n call → EndOf g s outcomes n
  at_chain : (chain : List Node) → IsRefusal g (derived g s outcomes) n chain → EndOf g s outcomes n

-- Whatever outcomes there are, the derivation of a node ends in one of these ways, and never with a
-- result and at a chain.
abbrev pub ResultCallOrChain : Type 0
ResultCallOrChain =
    (g : Graph) (s : Sources) (outcomes : Outcomes) (n : Node) → EndOf g s outcomes n

abbrev pub NoResultAndChain : Type 0
NoResultAndChain =
    (g : Graph) (s : Sources) (outcomes : Outcomes) (n : Node) → IsFounded g s outcomes n
    → (chain : List Node) → IsRefusal g (derived g s outcomes) n chain → ⊥

-- What holds under some of the outcomes holds under more: chains, and the calls that are met.
pub record AreKept (g : Graph) (s : Sources) (outcomes more : Outcomes) (n : Node) : Type 0 where
  pub circular : (chain : List Node) → IsCircular g (derived g s outcomes) n chain
      → IsCircular g (derived g s more) n chain
  pub deep : (chain : List Node) → IsDeep g (derived g s outcomes) n chain
      → IsDeep g (derived g s more) n chain
  pub calls : (call : Call) → IsCallFrom g (derived g s outcomes) n call
      → IsCallFrom g (derived g s more) n call

abbrev pub ChainsAndCallsStay : Type 0
ChainsAndCallsStay =
    (g : Graph) (s : Sources) (outcomes more : Outcomes) → HasMore outcomes more → (n : Node)
    → AreKept g s outcomes more n

-- A derived view has a value exactly where its status isn't `Abort`.
abbrev pub ValuedUnlessAbort : Type 0
ValuedUnlessAbort =
    (g : Graph) (s : Sources) (outcomes : Outcomes) (h : ℕ) (n : Node) (view : View)
    → derive g s outcomes h n ≡ Some view → (view.value ≡ None) ↔ (view.status ≡ Abort)

-- Results that agree with Derive(h) on the needs settle the node to Derive(h + 1).
abbrev pub SettlesAgain : Type 0
SettlesAgain =
    (g : Graph) (s : Sources) (outcomes : Outcomes) (h : ℕ) (n : Node) (view : View)
    → derive g s outcomes (suc h) n ≡ Some view
    → (seen : Results) (needs : List Node) → Needs g n seen needs
    → ((m : Node) → IsIn m needs → seen m ≡ derive g s outcomes h m)
    → (call : Option Call) (outcome : Option Outcome) → CallOf g n seen call
    → outcome_for outcomes call ≡ Some outcome → Settles g (text_of s) n seen outcome view

-- Heights go by the needs: each need of a node of height h + 1 has a height of at most h, and one
-- has just h, unless h is 0 and there are none.
pub record IsOneAbove (g : Graph) (s : Sources) (outcomes : Outcomes) (n : Node)
    (h : ℕ) : Type 0 where
  pub each : (m : Node) → IsNeed g (derived g s outcomes) n m
      → (k : ℕ) × HasHeight g s outcomes m k × (k ≤ h)
  pub one : (h ≡ 0)
      ⊎ ((m : Node) × IsNeed g (derived g s outcomes) n m × HasHeight g s outcomes m h)

abbrev pub HeightByNeeds : Type 0
HeightByNeeds =
    (g : Graph) (s : Sources) (outcomes : Outcomes) (n : Node) (h : ℕ)
    → HasHeight g s outcomes n (suc h) → suc h ≤ height_limit → IsOneAbove g s outcomes n h

-- The outcomes of a table fit their calls, and each call has one.
abbrev pub TableOutcomesFit : Type 0
TableOutcomesFit =
    (table : Job → Raw)
    → OutcomesFit (table_outcomes table) × ((call : Call) → IsSome (table_outcomes table call))
