-- Which calls of an object fail by plan.
use Rattle.std.specs.Prelude.{ℕ, List, Any, ◌≡◌}
use Rattle.odin_outside.specs.Causes.{once_more}

-- the numbers of the calls that are to fail, counted from 1, how many calls there were, and how many of all have failed
pub record FaultPlan : Type 0 where
  pub fails : List ℕ
  pub calls : ℕ
  pub faults : ℕ

-- before the first call
abbrev pub new_plan : List ℕ → FaultPlan
new_plan fails = record { fails = fails; calls = 0; faults = 0 }

-- the number of the next call, which stands still at the end of its type
abbrev pub next_number : FaultPlan → ℕ
next_number plan = once_more plan.calls

-- the next call is to fail
abbrev pub FailsNext : FaultPlan → Type 0
FailsNext plan = Any (λ number. number ≡ next_number plan) plan.fails

-- after a call
abbrev pub called : FaultPlan → FaultPlan
called plan = record plan { calls = next_number plan }

-- after a call that failed
abbrev pub failed : FaultPlan → FaultPlan
failed plan = record (called plan) { faults = once_more plan.faults }
