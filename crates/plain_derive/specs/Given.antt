-- Outcomes that a derivation was given, over those that are kept.
use Rattle.std.specs.Prelude.{List, [], ◌∷◌, ◌++◌, map, Option}
use Rattle.object_values.specs.declared.nodes.Node.{Node}
use Rattle.object_values.specs.declared.calls.Call.{Call}
use Rattle.object_values.specs.declared.calls.Outcome.{Outcome}
use Rattle.odin_outside.specs.Spawned.{Table}
use Rattle.meaning_texts.specs.Lists.{IsIn}
use Rattle.meaning_graph.specs.Graphs.{Graph}
use Rattle.meaning_derive.specs.Derive.{Sources, Outcomes, derived}
use Rattle.meaning_derive.specs.Chains.{IsRefusal}
use Rattle.meaning_derive.specs.Calls.{IsFrontier}
use Rattle.derive_walk.specs.Calls.{GivenOutcomes as Listed}
use Rattle.derive_walk.specs.Outcomes.{after}
use Rattle.job_runner.specs.Made.{IsOutcomeOfCall}

abbrev pub calls_of : Listed → List Call
calls_of given = map (λ (x : Call × Outcome). x.0) given

-- Calls that were given outcomes, each one at which the derivation stopped by what is kept and by
-- those before it.
pub data AreGiven (g : Graph) (s : Sources) (kept : Outcomes) (n : Node) : Listed → Type 0 where
  none_given : AreGiven g s kept n []
  one_more : (given : Listed) (call : Call) (outcome : Outcome) → AreGiven g s kept n given
      → IsFrontier g s (after kept given) n call
      → AreGiven g s kept n (given ++ (call, outcome) ∷ [])

-- each outcome came of its call
abbrev pub HaveCome : Option Table → Listed → Type 0
HaveCome answer given =
    (call : Call) (outcome : Outcome) → IsIn (call, outcome) given → IsOutcomeOfCall answer call outcome

-- By what is kept the node has a chain for which it is refused.
pub record IsRefusedBy (g : Graph) (s : Sources) (kept : Outcomes) (n : Node) : Type 0 where
  pub chain : List Node
  pub is : IsRefusal g (derived g s kept) n chain
