-- Tools in memory: what jobs leave, and in which order they end.
use Rattle.std.specs.Prelude.{◌≡◌, ℕ, ◌%◌, List, [], ◌∷◌, ◌++◌, Some, length, drop, remove, slice_get, if◌then◌else◌}
use Rattle.object_values.specs.declared.jobs.Job.{Job}
use Rattle.object_values.specs.declared.jobs.Raw.{Raw}
use Rattle.object_values.specs.contracts.jobs.JobPartialEq.TheImpl.{ghosts as job_eq}
use Rattle.odin_outside.specs.declared.events.Running.{Running}
use Rattle.odin_outside.specs.declared.events.ToolEvent.{ToolEvent}
use Rattle.odin_outside.specs.declared.events.ToolEvent.TheVariants.{Ended, Lost}
use Rattle.odin_outside.specs.Spawned.{Spawned, begun}
use Rattle.odin_memory.specs.Toys.{toy_raw}
use Rattle.odin_memory.specs.declared.answers.JobRaw.{JobRaw}
use Rattle.odin_memory.specs.declared.answers.Answers.{Answers}
use Rattle.odin_memory.specs.declared.answers.Answers.TheVariants.{Pairs, Toys}

-- What jobs leave. The places of the ends to come, which are used up from the front. What runs, in the order of the starts. What
-- happened. How many were started.
pub record Tools : Type 0 where
  pub answers : Answers
  pub order : List ℕ
  pub running : List Running
  pub log : List ToolEvent
  pub starts : ℕ

-- what a job leaves: what the first pair with this job says, or the other
abbrev pub answer_among : List JobRaw → Raw → Job → Raw
answer_among [] other job = other
answer_among (pair ∷ pairs) other job = if job_eq.eq pair.job job then pair.raw else answer_among pairs other job

abbrev pub answer_to_job : Answers → Job → Raw
answer_to_job (Pairs pairs other) job = answer_among pairs other job
answer_to_job Toys job = toy_raw job

-- what is told of them, of which so many starts and ends have failed
abbrev pub told_with : ℕ → Tools → Spawned
told_with faults tools = record { answer = Some (answer_to_job tools.answers); running = tools.running; log = Some tools.log; starts = tools.starts; faults = faults }

-- and of tools that never fail
abbrev pub tools_view : Tools → Spawned
tools_view tools = told_with 0 tools

-- the place of the next end among so many that run
abbrev pub place_among : List ℕ → ℕ → ℕ
place_among [] running = 0
place_among (place ∷ order) running = place % running

abbrev pub next_place : Tools → ℕ
next_place tools = place_among tools.order (length tools.running)

-- before the first start
abbrev pub new_tools : Answers → List ℕ → Tools
new_tools answers order = record { answers = answers; order = order; running = []; log = []; starts = 0 }

-- after the start of a job in a slot
abbrev pub tools_after_start : Tools → ℕ → Job → Tools
tools_after_start old slot job = record old { running = (begun (tools_view old) slot job).running; log = old.log ++ ToolEvent.Began slot job ∷ []; starts = (begun (tools_view old) slot job).starts }

-- after the end at the next place, which is noted so
abbrev pub ended : Tools → ToolEvent → Tools
ended old event = record old { order = drop 1 old.order; running = remove old.running (next_place old); log = old.log ++ event ∷ [] }

-- the tool at the next place ends, in this slot, and leaves this
pub record EndsNext (old : Tools) (slot : ℕ) (raw : Raw) (new : Tools) : Type 0 where
  pub job : Job
  pub next : slice_get old.running (next_place old) ≡ Some (record { slot = slot; job = job })
  pub answer : raw ≡ answer_to_job old.answers job
  pub after : new ≡ ended old (Ended slot)

-- the tool at the next place ends, in this slot, and what it leaves is lost
pub record LosesNext (old : Tools) (slot : ℕ) (new : Tools) : Type 0 where
  pub job : Job
  pub next : slice_get old.running (next_place old) ≡ Some (record { slot = slot; job = job })
  pub after : new ≡ ended old (Lost slot)
