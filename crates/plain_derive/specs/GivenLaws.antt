-- What follows where outcomes were given over what is kept.
use Rattle.std.specs.Prelude.{◌≡◌, ◌⊎◌, [], Option, Some, None, IsSome}
use Rattle.object_values.specs.declared.nodes.Node.{Node}
use Rattle.object_values.specs.declared.calls.Call.{Call}
use Rattle.odin_outside.specs.Spawned.{Table}
use Rattle.meaning_graph.specs.Graphs.{Graph}
use Rattle.meaning_texts.specs.Lists.{IsIn}
use Rattle.meaning_derive.specs.Derive.{Sources, Outcomes, derived, IsFounded}
use Rattle.meaning_derive.specs.Calls.{IsCallFrom}
use Rattle.meaning_derive.specs.Given.{OutcomesFit, table_outcomes}
use Rattle.meaning_derive.specs.Laws.{HasMore}
use Rattle.derive_walk.specs.Calls.{GivenOutcomes as Listed, AreOnce}
use Rattle.derive_walk.specs.Outcomes.{after}
use Rattle.plain_derive.specs.Given.{calls_of, AreGiven, HaveCome}

-- ---- the calls

-- Each call that was given an outcome is one of the node's, whatever else is known.
abbrev pub GivenAreCalls : Type 0
GivenAreCalls =
    (g : Graph) (s : Sources) (kept : Outcomes) (n : Node) (given : Listed)
    → AreGiven g s kept n given → (outcomes : Outcomes) → HasMore (after kept given) outcomes
    → (call : Call) → IsIn call (calls_of given) → IsCallFrom g (derived g s outcomes) n call

-- Each was given one, and none of them is kept.
pub record AreNew (kept : Outcomes) (given : Listed) : Type 0 where
  pub once : AreOnce (calls_of given)
  pub none : (call : Call) → IsIn call (calls_of given) → kept call ≡ None

abbrev pub GivenAreNew : Type 0
GivenAreNew =
    (g : Graph) (s : Sources) (kept : Outcomes) (n : Node) (given : Listed)
    → AreGiven g s kept n given → AreNew kept given

-- Where the node has a result by them, each of its calls is kept or was given one, whatever else is
-- known.
abbrev pub GivenAreAll : Type 0
GivenAreAll =
    (g : Graph) (s : Sources) (kept : Outcomes) (n : Node) (given : Listed)
    → IsFounded g s (after kept given) n → (outcomes : Outcomes)
    → HasMore (after kept given) outcomes
    → (call : Call) → IsCallFrom g (derived g s outcomes) n call
    → IsSome (kept call) ⊎ IsIn call (calls_of given)

-- None is given where all calls of the node are kept.
abbrev pub NoneIsGiven : Type 0
NoneIsGiven =
    (g : Graph) (s : Sources) (kept : Outcomes) (n : Node) (outcomes : Outcomes)
    → HasMore kept outcomes
    → ((call : Call) → IsCallFrom g (derived g s outcomes) n call → IsSome (kept call))
    → (given : Listed) → AreGiven g s kept n given → given ≡ []

-- ---- the outcomes

-- What is kept stays as it is.
abbrev pub KeptStays : Type 0
KeptStays =
    (g : Graph) (s : Sources) (kept : Outcomes) (n : Node) (given : Listed)
    → AreGiven g s kept n given → HasMore kept (after kept given)

-- Outcomes fit where those that are kept fit and the others came of their calls.
abbrev pub GivenFit : Type 0
GivenFit =
    (answer : Option Table) (kept : Outcomes) (given : Listed) → OutcomesFit kept
    → HaveCome answer given → OutcomesFit (after kept given)

-- Where the tools answer by a table and what is kept is true for it, all that is known is.
abbrev pub GivenAreTrue : Type 0
GivenAreTrue =
    (table : Table) (kept : Outcomes) (given : Listed) → HasMore kept (table_outcomes table)
    → HaveCome (Some table) given → HasMore (after kept given) (table_outcomes table)
