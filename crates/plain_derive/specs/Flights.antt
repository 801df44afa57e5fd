-- Tools in flight: the calls of a derivation that run at once, and the outcomes that came of them, over what is kept.
--
-- A flight is all that a derivation does with its tools, event by event: a start, an end, an end that was lost. It is said once, here, and
-- all that is promised of tools in flight is read off it: that as many run as may, that nothing is started without need or twice, and that
-- nothing more is started once the derivation is off its course.
use Rattle.std.specs.Prelude.{◌≡◌, ◌⊎◌, ◌<◌, ◌≤◌, ℕ, List, [], ◌∷◌, ◌++◌, length}
use Rattle.object_values.specs.declared.nodes.Node.{Node}
use Rattle.object_values.specs.declared.calls.Call.{Call}
use Rattle.object_values.specs.declared.calls.Outcome.{Outcome}
use Rattle.odin_outside.specs.declared.events.ToolEvent.TheVariants.{Ended, Lost}
use Rattle.odin_outside.specs.Causes.{IsCounted}
use Rattle.odin_outside.specs.Spawned.{Spawned, begun, Fails}
use Rattle.meaning_texts.specs.Lists.{IsIn}
use Rattle.meaning_calls.specs.Jobs.{job_of}
use Rattle.meaning_graph.specs.Graphs.{Graph}
use Rattle.meaning_derive.specs.Derive.{Sources, Outcomes}
use Rattle.meaning_derive.specs.Calls.{IsFrontier}
use Rattle.derive_walk.specs.Calls.{GivenOutcomes as Listed}
use Rattle.derive_walk.specs.Outcomes.{after}
use Rattle.job_runner.specs.declared.jobs.Flying.{Flying}
use Rattle.job_runner.specs.Made.{IsOutcomeOfCall}
use Rattle.job_runner.specs.Flights.{flying, calls_in, slots_in, AreDistinct, landed}
use Rattle.plain_derive.specs.Given.{IsRefusedBy}

-- ---- one moment

-- The calls that run, each in its slot; the outcomes that came so far; and what is told of the tools.
pub record Flight : Type 0 where
  pub running : List Flying
  pub given : Listed
  pub tools : Spawned

abbrev pub none_flown_yet : Spawned → Flight
none_flown_yet before = record { running = []; given = []; tools = before }

-- nothing runs, after these outcomes came
abbrev pub at_rest : Listed → Spawned → Flight
at_rest given tools = record { running = []; given = given; tools = tools }

-- the call was started in the slot
abbrev pub flight_after_start : Flight → ℕ → Call → Flight
flight_after_start f slot call = record { running = f.running ++ flying slot call ∷ []; given = f.given; tools = begun f.tools slot (job_of call) }

-- the call of the slot has ended with the outcome, and just these run still
abbrev pub ends : Flight → List Flying → ℕ → Call → Outcome → Flight
ends f rest slot call outcome = record { running = rest; given = f.given ++ (call, outcome) ∷ []; tools = landed f.tools rest (Ended slot) f.tools.faults }

-- the end in the slot was lost, and so many faults are counted
abbrev pub loses : Flight → List Flying → ℕ → ℕ → Flight
loses f rest slot faults = record { running = rest; given = f.given; tools = landed f.tools rest (Lost slot) faults }

-- ---- what an event stands on

-- The derivation stops at the call, by what is kept and by what came.
abbrev pub WaitsForCall : Graph → Sources → Outcomes → Node → Listed → Call → Type 0
WaitsForCall g s kept n given call = IsFrontier g s (after kept given) n call

-- It stopped there at a moment up to now at which the node had no chain for which it is refused.
pub record IsCalled (g : Graph) (s : Sources) (kept : Outcomes) (n : Node) (given : Listed) (call : Call) : Type 0 where
  pub seen : Listed
  pub since : Listed
  pub is : given ≡ seen ++ since
  pub stops : WaitsForCall g s kept n seen call
  pub calm : ¬ IsRefusedBy g s (after kept seen) n

-- It may be started then: the derivation stops at it, it doesn't run, and a slot is free.
pub record MayBegin (g : Graph) (s : Sources) (kept : Outcomes) (n : Node) (limit : ℕ) (f : Flight) (call : Call) : Type 0 where
  pub waits : WaitsForCall g s kept n f.given call
  pub called : IsCalled g s kept n f.given call
  pub new : IsIn call (calls_in f.running) → ⊥
  pub room : length f.running < limit

-- As many run as may: the limit, or all calls at which the derivation stops; each is one of these, and none runs twice.
pub record IsFull (WaitsForCall : Call → Type 0) (limit : ℕ) (running : List Call) : Type 0 where
  pub only : (call : Call) → IsIn call running → WaitsForCall call
  pub once : AreDistinct running
  pub few : length running ≤ limit
  pub full : (length running ≡ limit) ⊎ ((call : Call) → WaitsForCall call → IsIn call running)

-- Where a slot is free the node has no chain for which it is refused: a chain is found before an end is waited for.
abbrev pub IsClear : Graph → Sources → Outcomes → Node → ℕ → Flight → Type 0
IsClear g s kept n limit f = (length f.running ≡ limit) ⊎ (¬ IsRefusedBy g s (after kept f.given) n)

-- Why nothing more is started: the node has a chain for which it is refused, or a tool was not started or its end lost.
pub data Why : Type 0 where
  for_chain : Why
  for_spawn : Why

-- Tools are started, or they are drained.
pub data Course : Type 0 where
  on_course : Course
  off_course : Why → Course

-- ---- the flight

-- The tools of a derivation, event by event. A start is that of a call at which the derivation stops and that doesn't run, where one more
-- may run, in a slot in which none runs. Immediately before each end on its course as many run as may. Once it is off its course nothing is
-- started, and what runs ends or is lost.
pub data Flies (g : Graph) (s : Sources) (kept : Outcomes) (n : Node) (limit : ℕ) (before : Spawned) : Course → Flight → Type 0 where
  none_flown : Flies g s kept n limit before on_course (none_flown_yet before)
  one_began : (f : Flight) (slot : ℕ) (call : Call) → Flies g s kept n limit before on_course f → MayBegin g s kept n limit f call → (IsIn slot (slots_in f.running) → ⊥)
      → Flies g s kept n limit before on_course (flight_after_start f slot call)
  one_ended : (f : Flight) (front back : List Flying) (slot : ℕ) (call : Call) (outcome : Outcome) → Flies g s kept n limit before on_course f
      → f.running ≡ front ++ flying slot call ∷ back → IsFull (WaitsForCall g s kept n f.given) limit (calls_in f.running) → IsClear g s kept n limit f
      → IsOutcomeOfCall before.answer call outcome
      → Flies g s kept n limit before on_course (ends f (front ++ back) slot call outcome)
  chain_found : (f : Flight) → Flies g s kept n limit before on_course f → IsRefusedBy g s (after kept f.given) n
      → Flies g s kept n limit before (off_course for_chain) f
  start_refused : (f : Flight) (call : Call) (tools : Spawned) → Flies g s kept n limit before on_course f → MayBegin g s kept n limit f call → Fails f.tools tools
      → Flies g s kept n limit before (off_course for_spawn) (record f { tools = tools })
  end_lost : (f : Flight) (front back : List Flying) (slot : ℕ) (call : Call) (faults : ℕ) → Flies g s kept n limit before on_course f
      → f.running ≡ front ++ flying slot call ∷ back → IsFull (WaitsForCall g s kept n f.given) limit (calls_in f.running) → IsClear g s kept n limit f
      → IsCounted f.tools.faults faults
      → Flies g s kept n limit before (off_course for_spawn) (loses f (front ++ back) slot faults)
  one_drained : (why : Why) (f : Flight) (front back : List Flying) (slot : ℕ) (call : Call) (outcome : Outcome) → Flies g s kept n limit before (off_course why) f
      → f.running ≡ front ++ flying slot call ∷ back → WaitsForCall g s kept n f.given call → IsOutcomeOfCall before.answer call outcome
      → Flies g s kept n limit before (off_course why) (ends f (front ++ back) slot call outcome)
  drain_lost : (why : Why) (f : Flight) (front back : List Flying) (slot : ℕ) (call : Call) (faults : ℕ) → Flies g s kept n limit before (off_course why) f
      → f.running ≡ front ++ flying slot call ∷ back → IsCounted f.tools.faults faults
      → Flies g s kept n limit before (off_course why) (loses f (front ++ back) slot faults)

-- The derivation's tools ran so, each of these outcomes came in this order, and none runs any more.
pub record AreRun (g : Graph) (s : Sources) (kept : Outcomes) (n : Node) (limit : ℕ) (course : Course) (given : Listed) (before now : Spawned) : Type 0 where
  pub flown : Flies g s kept n limit before course (at_rest given now)

-- The same up to a moment at which some may run.
pub record AreFlown (g : Graph) (s : Sources) (kept : Outcomes) (n : Node) (limit : ℕ) (given : Listed) (before now : Spawned) : Type 0 where
  pub course : Course
  pub running : List Flying
  pub few : length running ≤ limit
  pub flown : Flies g s kept n limit before course (record { running = running; given = given; tools = now })
