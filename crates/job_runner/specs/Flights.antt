-- Calls in flight: which run, each in its slot, and what a start and an end make of them.
use Rattle.std.specs.Prelude.{◌≡◌, ◌⊎◌, ◌≤◌, ⊤, ℕ, List, [], ◌∷◌, ◌++◌, map, length, Option, Some, None}
use Rattle.object_values.specs.declared.calls.Call.{Call}
use Rattle.object_values.specs.declared.calls.Outcome.{Outcome}
use Rattle.odin_outside.specs.declared.events.Running.{Running}
use Rattle.odin_outside.specs.declared.events.ToolEvent.{ToolEvent}
use Rattle.odin_outside.specs.declared.events.ToolEvent.TheVariants.{Ended, Lost}
use Rattle.odin_outside.specs.Causes.{IsCounted}
use Rattle.odin_outside.specs.Spawned.{Spawned, begun, noted}
use Rattle.meaning_texts.specs.Lists.{IsIn}
use Rattle.meaning_calls.specs.Jobs.{job_of}
use Rattle.job_runner.specs.declared.jobs.Flying.{Flying}
use Rattle.job_runner.specs.Made.{IsOutcomeOfCall}

-- ---- what runs

abbrev pub flying : ℕ → Call → Flying
flying slot call = record { slot = slot; call = call }

abbrev pub calls_in : List Flying → List Call
calls_in running = map (λ f. f.call) running

abbrev pub slots_in : List Flying → List ℕ
slots_in running = map (λ f. f.slot) running

-- none stands twice
abbrev pub AreDistinct : {A : Type 0} → List A → Type 0
AreDistinct [] = ⊤
AreDistinct (x ∷ xs) = (IsIn x xs → ⊥) × AreDistinct xs

-- How many may run, and which do, in the order of their starts.
pub record InFlight : Type 0 where
  pub limit : ℕ
  pub running : List Flying

abbrev pub none_in_flight : ℕ → InFlight
none_in_flight limit = record { limit = limit; running = [] }

-- No call runs twice, no slot has two, and no more run than may.
pub record IsInFlight (limit : ℕ) (running : List Flying) : Type 0 where
  pub once : AreDistinct (calls_in running)
  pub apart : AreDistinct (slots_in running)
  pub few : length running ≤ limit

-- ---- what is told of it

abbrev pub tool_of : Flying → Running
tool_of f = record { slot = f.slot; job = job_of f.call }

-- what the tools run is just this, each slot with the job of its call
abbrev pub AreTold : List Flying → Spawned → Type 0
AreTold running tools = tools.running ≡ map tool_of running

-- just these run still, and this event happened; so many faults are counted
abbrev pub landed : Spawned → List Flying → ToolEvent → ℕ → Spawned
landed old running event faults = record old { running = map tool_of running; log = noted old.log event; faults = faults }

-- ---- a start

-- The call runs, in a slot in which none ran, and nothing else happened.
pub record HasBegun (call : Call) (old : InFlight) (before : Spawned) (new : InFlight) (now : Spawned) : Type 0 where
  pub slot : ℕ
  pub free : IsIn slot (slots_in old.running) → ⊥
  pub is : new ≡ record old { running = old.running ++ flying slot call ∷ [] }
  pub told : now ≡ begun before slot (job_of call)

-- ---- an end

-- The call ran in the slot, and runs no more; all others run on.
pub record IsOut (slot : ℕ) (call : Call) (old new : InFlight) : Type 0 where
  pub front : List Flying
  pub back : List Flying
  pub was : old.running ≡ front ++ flying slot call ∷ back
  pub is : new ≡ record old { running = front ++ back }

-- A call came to an outcome of its own, and nothing else happened.
pub record HasEnded (call : Call) (outcome : Outcome) (old : InFlight) (before : Spawned) (new : InFlight) (now : Spawned) : Type 0 where
  pub slot : ℕ
  pub out : IsOut slot call old new
  pub told : now ≡ landed before new.running (Ended slot) before.faults
  pub came : IsOutcomeOfCall before.answer call outcome

-- The end of a call was lost: a fault, which was counted. Nothing else happened.
pub record HasLost (old : InFlight) (before : Spawned) (new : InFlight) (now : Spawned) : Type 0 where
  pub slot : ℕ
  pub call : Call
  pub out : IsOut slot call old new
  pub counted : IsCounted before.faults now.faults
  pub told : now ≡ landed before new.running (Lost slot) now.faults

-- Memory was wanting: nothing happened, or a call came to an outcome, which is given up.
pub record HasGivenUpOutcome (old : InFlight) (before : Spawned) (new : InFlight) (now : Spawned) : Type 0 where
  pub call : Call
  pub outcome : Outcome
  pub ended : HasEnded call outcome old before new now

abbrev pub MayHaveEnded : InFlight → Spawned → InFlight → Spawned → Type 0
MayHaveEnded old before new now = ((new ≡ old) × (now ≡ before)) ⊎ HasGivenUpOutcome old before new now

-- The first that runs in the slot was taken out, where one does.
pub record IsFirst (slot : ℕ) (old new : InFlight) (f : Flying) : Type 0 where
  pub out : IsOut slot f.call old new
  pub before : IsIn slot (slots_in out.front) → ⊥
  pub here : f.slot ≡ slot

abbrev pub IsFirstIn : ℕ → InFlight → InFlight → Option Flying → Type 0
IsFirstIn slot old new (Some f) = IsFirst slot old new f
IsFirstIn slot old new None = (IsIn slot (slots_in old.running) → ⊥) × (new ≡ old)
