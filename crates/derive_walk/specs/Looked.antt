-- What a walk keeps of the nodes that it looked at, and of those for which it looked for an outcome.
use Rattle.std.specs.Prelude.{◌≡◌, ◌≢◌, ◌⊎◌, ℕ, List, [], Option, Some, None, IsSome}
use Rattle.object_values.specs.declared.nodes.Node.{Node}
use Rattle.object_values.specs.declared.calls.Call.{Call}
use Rattle.meaning_texts.specs.Lists.{IsIn}
use Rattle.meaning_graph.specs.Graphs.{Graph}
use Rattle.meaning_tasks.specs.Calls.{CallOf}
use Rattle.meaning_tasks.specs.Needs.{Results}
use Rattle.meaning_derive.specs.Calls.{Runs}
use Rattle.meaning_derive.specs.Chains.{AreDifferent}
use Rattle.meaning_true.specs.Knowing.{MayLook, TakesOutcome}
use Rattle.derive_walk.specs.Calls.{GivenOutcomes, outcome_in}
use Rattle.derive_walk.specs.declared.settling.Closed.{Closed}
use Rattle.derive_walk.specs.declared.settling.Closed.TheVariants.{Stops}
use Rattle.derive_walk.specs.Places.{Lookups, at_place, looked_nodes, place_in}
use Rattle.derive_walk.specs.Tables.{Entries, done_in}
use Rattle.derive_walk.specs.Worlds.{World, seen_in}

-- The nodes that were looked at are different ones with steps, each with the place of its record; and those with steps that have results are among them.
pub record AreLookups (w : World) (entries : Entries) (looked : Lookups) : Type 0 where
  pub different : AreDifferent (looked_nodes looked)
  pub stepped : (n : Node) → IsIn n (looked_nodes looked) → n.steps ≢ []
  pub places : (n : Node) (place : Option ℕ) → place_in looked n ≡ Some place
      → at_place w.places place ≡ w.records n
  pub done : (n : Node) → IsSome (done_in entries n) → n.steps ≢ [] → IsSome (place_in looked n)

-- Each of them may be looked at.
abbrev pub MayBeLooked : World → Node → Lookups → Type 0
MayBeLooked w root looked = (n : Node) → IsIn n (looked_nodes looked)
    → MayLook w.graph w.sources w.outcomes w.records root n

-- ---- outcomes

-- The node's tool is run over the results by a call that isn't wanted, and was given no outcome.
pub record MayTake (g : Graph) (seen : Results) (given : GivenOutcomes) (wanted : List Call) (n : Node) : Type 0 where
  pub call : Call
  pub called : CallOf g n seen (Some call)
  pub new : IsIn call wanted → ⊥
  pub none : outcome_in given call ≡ None

-- the node has a result, or its call is wanted
abbrev pub IsEnded : Entries → List Call → Node → Closed → Type 0
IsEnded done wanted n (Stops call) = IsIn call wanted
IsEnded done wanted n other = IsSome (done_in done n)

-- its call is wanted, or was given an outcome
pub record IsAsked (w : World) (given : GivenOutcomes) (wanted : List Call) (n : Node) : Type 0 where
  pub call : Call
  pub runs : Runs w.graph (seen_in w) n call
  pub asked : IsIn call wanted ⊎ IsSome (outcome_in given call)

-- The node was looked at, and its tool is run without a record of it that is present. It has a result, or its call was asked for: so no outcome is looked
-- for twice.
pub record IsTaken (w : World) (given : GivenOutcomes) (lookups : Lookups) (done : Entries) (wanted : List Call) (n : Node) : Type 0 where
  pub looked : IsIn n (looked_nodes lookups)
  pub takes : TakesOutcome w.graph w.sources w.outcomes w.records n
  pub after : IsSome (done_in done n) ⊎ IsAsked w given wanted n

-- Each of these is so, once.
pub record AreTaken (w : World) (given : GivenOutcomes) (looked : Lookups) (done : Entries) (wanted : List Call) (taken : List Node) : Type 0 where
  pub once : AreDifferent taken
  pub each : (n : Node) → IsIn n taken → IsTaken w given looked done wanted n
