-- What the laws say by which a walk over the needs derives: from below, along chains, as more
-- outcomes come, and of what is looked at.
use Rattle.std.specs.Prelude.{◌≡◌, ◌↔◌, ◌⊎◌, ℕ, suc, ◌+◌, ◌<◌, ◌≤◌, List, [], ◌∷◌, ◌++◌, length, Option, Some, None, IsSome}
use Rattle.object_values.specs.declared.nodes.Node.{Node}
use Rattle.object_values.specs.declared.views.View.{View}
use Rattle.object_values.specs.declared.calls.Call.{Call}
use Rattle.object_values.specs.declared.calls.Outcome.{Outcome}
use Rattle.meaning_texts.specs.Limits.{height_limit}
use Rattle.meaning_texts.specs.Lists.{IsIn}
use Rattle.meaning_graph.specs.Graphs.{Graph}
use Rattle.meaning_tasks.specs.Needs.{Results, Needs}
use Rattle.meaning_tasks.specs.Calls.{CallOf}
use Rattle.meaning_tasks.specs.Settle.{Settles}
use Rattle.meaning_tasks.specs.Laws.{AgreeAt}
use Rattle.meaning_derive.specs.Derive.{Sources, text_of, Outcomes, outcome_for, derive, derived, IsFounded, HasHeight}
use Rattle.meaning_derive.specs.Chains.{IsNeed, LeadsOn, IsRefusal, IsMet}
use Rattle.meaning_derive.specs.Calls.{Runs, IsCallFrom, IsFrontier}
use Rattle.meaning_derive.specs.Laws.{HasMore}

-- ---- from below

-- Results that agree with Derive(h) on the needs settle the node to its result one height up.
abbrev pub SettlesTo : Type 0
SettlesTo =
    (g : Graph) (s : Sources) (outcomes : Outcomes) (h : ℕ) (n : Node) (seen : Results)
    (needs : List Node) → Needs g n seen needs → AgreeAt seen (derive g s outcomes h) needs
    → ((m : Node) → IsIn m needs → IsSome (seen m))
    → (call : Option Call) (outcome : Option Outcome) → CallOf g n seen call
    → outcome_for outcomes call ≡ Some outcome → (view : View)
    → Settles g (text_of s) n seen outcome view → derive g s outcomes (suc h) n ≡ Some view

-- A need that has no result at a height leaves the node without one at the next.
abbrev pub NoneByNeed : Type 0
NoneByNeed =
    (g : Graph) (s : Sources) (outcomes : Outcomes) (h : ℕ) → h ≤ height_limit → (n m : Node)
    → IsNeed g (derived g s outcomes) n m → derive g s outcomes h m ≡ None
    → derive g s outcomes (suc h) n ≡ None

-- A node that has a result at h + 1 is that high where h is 0, or where one need is just h high.
abbrev pub HeightAbove : Type 0
HeightAbove =
    (g : Graph) (s : Sources) (outcomes : Outcomes) (n : Node) (h : ℕ) → h ≤ height_limit
    → IsSome (derive g s outcomes (suc h) n)
    → ((h ≡ 0) ⊎ ((m : Node) × IsNeed g (derived g s outcomes) n m × HasHeight g s outcomes m h))
    → HasHeight g s outcomes n (suc h)

-- A call without an outcome leaves its node without a result.
abbrev pub NoneByCall : Type 0
NoneByCall =
    (g : Graph) (s : Sources) (outcomes : Outcomes) (n : Node) (call : Call)
    → Runs g (derived g s outcomes) n call → outcomes call ≡ None → derived g s outcomes n ≡ None

-- A node runs one call.
abbrev pub OneRun : Type 0
OneRun =
    (g : Graph) (seen : Results) (n : Node) (call other : Call) → Runs g seen n call
    → Runs g seen n other → call ≡ other

-- ---- along chains

-- It is derived lower than h, by more than the size.
pub record IsLower (g : Graph) (s : Sources) (outcomes : Outcomes) (h size : ℕ)
    (m : Node) : Type 0 where
  pub height : ℕ
  pub view : View
  pub is : derive g s outcomes height m ≡ Some view
  pub low : height + size < h

-- What a chain leads to from what is derived at a height is derived lower, by the chain's length.
abbrev pub ChainsFall : Type 0
ChainsFall =
    (g : Graph) (s : Sources) (outcomes : Outcomes) (h : ℕ) → h ≤ height_limit
    → (n m : Node) (view : View) → derive g s outcomes h n ≡ Some view → (front : List Node)
    → LeadsOn g (derived g s outcomes) n (front ++ m ∷ [])
    → IsLower g s outcomes h (length front) m

-- Heights from 1 on that fall from each node to its needs.
pub record AreFalling (g : Graph) (seen : Results) (heights : Node → Option ℕ) : Type 0 where
  pub low : (n : Node) (k : ℕ) → heights n ≡ Some k → 0 < k
  pub falls : (n m : Node) (k : ℕ) → heights n ≡ Some k → IsNeed g seen n m
      → (j : ℕ) × (heights m ≡ Some j) × (j < k)

-- Where heights fall and that of the node is at most the limit, it is refused for no chain.
abbrev pub NoneRefused : Type 0
NoneRefused =
    (g : Graph) (seen : Results) (heights : Node → Option ℕ) → AreFalling g seen heights
    → (n : Node) (k : ℕ) → heights n ≡ Some k → k ≤ height_limit → (chain : List Node)
    → IsRefusal g seen n chain → ⊥

-- ---- as more outcomes come

-- What has a result under some outcomes, and a lower one under more, has the lower one under the
-- first too.
abbrev pub HeightsStay : Type 0
HeightsStay =
    (g : Graph) (s : Sources) (outcomes more : Outcomes) → HasMore outcomes more → (k h : ℕ)
    → h ≤ height_limit → k ≤ height_limit → (n : Node) (view low : View)
    → derive g s outcomes h n ≡ Some view → derive g s more k n ≡ Some low
    → derive g s outcomes k n ≡ Some low

-- So heights stay.
abbrev pub SameHeight : Type 0
SameHeight =
    (g : Graph) (s : Sources) (outcomes more : Outcomes) → HasMore outcomes more
    → (n : Node) (h : ℕ) → h ≤ height_limit → HasHeight g s outcomes n h → HasHeight g s more n h

-- A call at which the derivation stops is one until it has an outcome.
abbrev pub FrontierStays : Type 0
FrontierStays =
    (g : Graph) (s : Sources) (outcomes more : Outcomes) → HasMore outcomes more
    → (n : Node) (call : Call) → IsFrontier g s outcomes n call → more call ≡ None
    → IsFrontier g s more n call

-- ---- the calls of a founded node

-- Each call that is met from it has an outcome.
abbrev pub CallsAreKnown : Type 0
CallsAreKnown =
    (g : Graph) (s : Sources) (outcomes : Outcomes) (n : Node) (call : Call)
    → IsFounded g s outcomes n → IsCallFrom g (derived g s outcomes) n call → IsSome (outcomes call)

-- So there is no call at which its derivation stops.
abbrev pub NoFrontier : Type 0
NoFrontier =
    (g : Graph) (s : Sources) (outcomes : Outcomes) (n : Node) (call : Call)
    → IsFounded g s outcomes n → IsFrontier g s outcomes n call → ⊥

-- More outcomes bring no call to it.
abbrev pub NoCallsCome : Type 0
NoCallsCome =
    (g : Graph) (s : Sources) (outcomes more : Outcomes) → HasMore outcomes more
    → (n : Node) (call : Call) → IsFounded g s outcomes n
    → IsCallFrom g (derived g s more) n call → IsCallFrom g (derived g s outcomes) n call

-- A call that is met from a need of the node.
pub record IsCallOfNeed (g : Graph) (seen : Results) (n : Node) (call : Call) : Type 0 where
  pub need : Node
  pub one : IsNeed g seen n need
  pub from : IsCallFrom g seen need call

-- The calls of a founded node are its own and those of its needs.
abbrev pub CallsByNeeds : Type 0
CallsByNeeds =
    (g : Graph) (s : Sources) (outcomes : Outcomes) (n : Node) (call : Call)
    → IsFounded g s outcomes n
    → IsCallFrom g (derived g s outcomes) n call
    ↔ (Runs g (derived g s outcomes) n call ⊎ IsCallOfNeed g (derived g s outcomes) n call)

-- ---- sources

-- A source has the same result at every height from 1 on, whatever outcomes there are.
abbrev pub SourcesAreThere : Type 0
SourcesAreThere =
    (g : Graph) (s : Sources) (n : Node) → n.steps ≡ []
    → (view : View) × ((outcomes : Outcomes) (h : ℕ) → derive g s outcomes (suc h) n ≡ Some view)

-- The sources that are met from a node give its result: no other text is looked at.
abbrev pub SourcesAreEnough : Type 0
SourcesAreEnough =
    (g : Graph) (s other : Sources) (outcomes : Outcomes) (n : Node)
    → ((m : Node) → IsMet g (derived g s outcomes) n m → m.steps ≡ []
    → text_of s m.source ≡ text_of other m.source)
    → (view : View) → derived g s outcomes n ≡ Some view → derived g other outcomes n ≡ Some view
