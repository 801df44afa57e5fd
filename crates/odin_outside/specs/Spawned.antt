-- What starts child programs, as it is told: what runs, what was started and ended, and what each job leaves.
use Rattle.std.specs.Prelude.{◌≡◌, ⊤, ℕ, ◌<◌, List, [], ◌∷◌, ◌++◌, Any, Option, Some, None, Result, Err}
use Rattle.object_values.specs.declared.jobs.Job.{Job}
use Rattle.object_values.specs.declared.jobs.Raw.{Raw}
use Rattle.odin_outside.specs.declared.events.Running.{Running}
use Rattle.odin_outside.specs.declared.events.ToolEvent.{ToolEvent}
use Rattle.odin_outside.specs.declared.events.ToolEvent.TheVariants.{Began, Ended, Lost}
use Rattle.odin_outside.specs.declared.spawner.FinishFault.{FinishFault}
use Rattle.odin_outside.specs.declared.spawner.FinishFault.TheVariants.{Failed}
use Rattle.odin_outside.specs.Causes.{once_more, IsCounted}

-- what each job leaves
abbrev pub Table : Type 0
Table = Job → Raw

-- The answers to jobs, where they are told. What runs, in the order of the starts. What happened, where that is told. How many were
-- started, and how often one failed to start or to give its end: two numbers that stand still at the end of their type.
pub record Spawned : Type 0 where
  pub answer : Option Table
  pub running : List Running
  pub log : Option (List ToolEvent)
  pub starts : ℕ
  pub faults : ℕ

-- a child program runs in this slot
abbrev pub IsRunning : List Running → ℕ → Type 0
IsRunning running slot = Any (λ tool. tool.slot ≡ slot) running

-- the least number of a slot in which none runs
pub record IsLeastFree (running : List Running) (slot : ℕ) : Type 0 where
  pub free : ¬ IsRunning running slot
  pub least : (lower : ℕ) → lower < slot → IsRunning running lower

abbrev pub noted : Option (List ToolEvent) → ToolEvent → Option (List ToolEvent)
noted None event = None
noted (Some log) event = Some (log ++ event ∷ [])

-- a start of the job in the slot
abbrev pub begun : Spawned → ℕ → Job → Spawned
begun old slot job = record old { running = old.running ++ (record { slot = slot; job = job }) ∷ []; log = noted old.log (Began slot job); starts = once_more old.starts }

-- Nothing happened but a fault, which was counted.
pub record Fails (old new : Spawned) : Type 0 where
  pub counted : IsCounted old.faults new.faults
  pub is : new ≡ record old { faults = new.faults }

-- The job ran in the slot, and runs there no longer.
pub record StopsJob (old : Spawned) (slot : ℕ) (job : Job) (event : ToolEvent) (faults : ℕ) (new : Spawned) : Type 0 where
  pub before : List Running
  pub after : List Running
  pub ran : old.running ≡ before ++ (record { slot = slot; job = job }) ∷ after
  pub is : new ≡ record old { running = before ++ after; log = noted old.log event; faults = faults }

-- the answer to the job, where answers are told
abbrev pub IsAnswerToJob : Option Table → Job → Raw → Type 0
IsAnswerToJob None job raw = ⊤
IsAnswerToJob (Some table) job raw = raw ≡ table job

-- A job that ran in the slot has ended, and left this.
pub record Ends (old : Spawned) (slot : ℕ) (raw : Raw) (new : Spawned) : Type 0 where
  pub job : Job
  pub stops : StopsJob old slot job (Ended slot) old.faults new
  pub leaves : IsAnswerToJob old.answer job raw

-- A job that ran in the slot has ended, and what it left is lost: a fault, which was counted.
pub record Loses (old : Spawned) (slot : ℕ) (new : Spawned) : Type 0 where
  pub job : Job
  pub counted : IsCounted old.faults new.faults
  pub stops : StopsJob old slot job (Lost slot) new.faults new

-- the same of a result that names the slot
abbrev pub LosesAt : {T : Type 0} → Spawned → Spawned → Result T FinishFault → Type 0
LosesAt old new result = (slot : ℕ) → result ≡ Err (Failed slot) → Loses old slot new
