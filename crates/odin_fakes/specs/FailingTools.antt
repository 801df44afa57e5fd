-- Tools in memory whose starts and ends fail by plan.
use Rattle.std.specs.Prelude.{◌≡◌, ℕ, Result, Err}
use Rattle.object_values.specs.declared.jobs.Job.{Job}
use Rattle.object_values.specs.declared.jobs.Raw.{Raw}
use Rattle.odin_outside.specs.Spawned.{Spawned, Fails, Ends, Loses}
use Rattle.odin_outside.specs.declared.spawner.FinishFault.{FinishFault}
use Rattle.odin_memory.specs.Tools.{Tools, told_with, tools_after_start, EndsNext, LosesNext}
use Rattle.odin_fakes.specs.declared.plan.Failing.{Failing}
use Rattle.odin_fakes.specs.Plan.{FailsNext, called, failed}

-- what is told of tools whose starts and ends fail by plan
abbrev pub told_failing : Failing Tools → Spawned
told_failing tools = told_with tools.plan.faults tools.inner

-- a start of theirs fails, an end of theirs is given or lost, as it is told
abbrev pub FailsAsTold : Failing Tools → Failing Tools → Type 0
FailsAsTold old new = Fails (told_failing old) (told_failing new)

abbrev pub EndsAsTold : Failing Tools → Failing Tools → ℕ × Raw → Type 0
EndsAsTold old new end = Ends (told_failing old) end.0 end.1 (told_failing new)

abbrev pub LosesAsTold : Failing Tools → Failing Tools → ℕ → Type 0
LosesAsTold old new slot = Loses (told_failing old) slot (told_failing new)

-- P of the slot whose end was lost
abbrev pub OnLost : Result (ℕ × Raw) FinishFault → (ℕ → Type 0) → Type 0
OnLost result P = (slot : ℕ) → result ≡ Err (FinishFault.Failed slot) → P slot

-- such tools after the start of a job in a slot
abbrev pub started_unplanned : Failing Tools → ℕ → Job → Failing Tools
started_unplanned old slot job = record { inner = tools_after_start old.inner slot job; plan = called old.plan }

-- after a start that failed by plan, which started nothing
abbrev pub tools_after_failed_start : Failing Tools → Failing Tools
tools_after_failed_start old = record old { plan = failed old.plan }

-- after a call that wanted memory
abbrev pub wanted : Failing Tools → Failing Tools
wanted old = record old { plan = called old.plan }

-- the tool at the next place ends, as the plan lets it
pub record EndsUnplanned (old : Failing Tools) (slot : ℕ) (raw : Raw) (new : Failing Tools) : Type 0 where
  pub ends : EndsNext old.inner slot raw new.inner
  pub plan : new.plan ≡ called old.plan

-- the tool at the next place ends, and what it leaves is lost by plan
pub record LosesByPlan (old : Failing Tools) (slot : ℕ) (new : Failing Tools) : Type 0 where
  pub planned : FailsNext old.plan
  pub loses : LosesNext old.inner slot new.inner
  pub plan : new.plan ≡ failed old.plan
