-- What the laws of calls say.
use Rattle.std.specs.Prelude.{◌≡◌, ◌↔◌, IsTrue}
use Rattle.object_values.specs.declared.calls.Call.{Call}
use Rattle.object_values.specs.declared.calls.Outcome.{Outcome}
use Rattle.object_values.specs.declared.jobs.Raw.{Raw}
use Rattle.meaning_calls.specs.Jobs.{IsWellFormed, job_of}
use Rattle.meaning_calls.specs.Outcomes.{outcome_of, OutcomeFits}
use Rattle.meaning_calls.specs.Tests.{is_well_formed, outcome_fits}

-- Two well formed calls with one job are one call.
abbrev pub OneJobOneCall : Type 0
OneJobOneCall = (a b : Call) → IsWellFormed a → IsWellFormed b → job_of a ≡ job_of b → a ≡ b

-- The outcome of a call fits it, whatever its job left.
abbrev pub EachOutcomeFits : Type 0
EachOutcomeFits = (call : Call) (raw : Raw) → OutcomeFits call (outcome_of call raw)

-- The computed test holds of the well formed calls alone.
abbrev pub WellFormedIsTested : Type 0
WellFormedIsTested = (call : Call) → IsTrue (is_well_formed call) ↔ IsWellFormed call

-- The computed test holds of the outcomes that fit alone.
abbrev pub OutcomeFitsIsTested : Type 0
OutcomeFitsIsTested =
    (call : Call) (outcome : Outcome)
    → IsTrue (outcome_fits call outcome) ↔ OutcomeFits call outcome
