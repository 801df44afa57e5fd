-- What follows of tools in flight.
use Rattle.std.specs.Prelude.{◌≡◌, ◌≢◌, ◌+◌, ◌≤◌, ℕ, List, [], ◌∷◌, ◌++◌, map, length, min, Option, Some, None}
use Rattle.object_values.specs.declared.nodes.Node.{Node}
use Rattle.object_values.specs.declared.calls.Call.{Call}
use Rattle.object_values.specs.declared.jobs.Job.{Job}
use Rattle.odin_outside.specs.declared.events.ToolEvent.{ToolEvent}
use Rattle.odin_outside.specs.declared.events.ToolEvent.TheVariants.{Began}
use Rattle.odin_outside.specs.Causes.{IsCounted, last_count}
use Rattle.odin_outside.specs.Spawned.{Spawned}
use Rattle.meaning_texts.specs.Lists.{IsIn}
use Rattle.meaning_calls.specs.Jobs.{job_of}
use Rattle.meaning_graph.specs.Graphs.{Graph}
use Rattle.meaning_derive.specs.Derive.{Sources, Outcomes, derived}
use Rattle.meaning_derive.specs.Calls.{IsCallFrom, IsFrontier}
use Rattle.meaning_derive.specs.Laws.{HasMore}
use Rattle.derive_walk.specs.Calls.{AreOnce}
use Rattle.derive_walk.specs.Outcomes.{after}
use Rattle.job_runner.specs.Flights.{tool_of, AreDistinct, AreTold}
use Rattle.plain_derive.specs.Given.{calls_of, AreGiven, HaveCome, IsRefusedBy}
use Rattle.plain_derive.specs.Flights.{Flight, WaitsForCall, IsFull, Course, on_course, off_course, for_chain, for_spawn, Flies}
use Rattle.plain_derive.specs.Followed.{LogLeadsTo}

-- ---- how many run

-- As many as may run is the lesser of the limit and of the number of all calls at which the derivation stops.
abbrev pub FullIsLesser : Type 0
FullIsLesser =
    (g : Graph) (s : Sources) (outcomes : Outcomes) (n : Node) (limit : ℕ) (running all : List Call)
    → IsFull (λ call. IsFrontier g s outcomes n call) limit running → AreDistinct all
    → ((call : Call) → IsIn call all → IsFrontier g s outcomes n call)
    → ((call : Call) → IsFrontier g s outcomes n call → IsIn call all)
    → length running ≡ min limit (length all)

-- No more run than may, at any moment.
abbrev pub FlightsAreFew : Type 0
FlightsAreFew =
    (g : Graph) (s : Sources) (kept : Outcomes) (n : Node) (limit : ℕ) (before : Spawned)
    (course : Course) (f : Flight) → Flies g s kept n limit before course f
    → length f.running ≤ limit

-- ---- what came, and what is told

-- Each outcome was given at a call at which the derivation stopped, by what was given before it, and came of that call. The tools answer as
-- before, and run just what runs.
pub record IsFlown (g : Graph) (s : Sources) (kept : Outcomes) (n : Node) (before : Spawned) (f : Flight) : Type 0 where
  pub are : AreGiven g s kept n f.given
  pub came : HaveCome before.answer f.given
  pub answer : f.tools.answer ≡ before.answer
  pub told : before.running ≡ [] → AreTold f.running f.tools

abbrev pub FlightsAreGiven : Type 0
FlightsAreGiven =
    (g : Graph) (s : Sources) (kept : Outcomes) (n : Node) (limit : ℕ) (before : Spawned)
    (course : Course) (f : Flight) → Flies g s kept n limit before course f
    → IsFlown g s kept n before f

-- how the count of faults goes on: on its course it stays, and a tool that was not started, or whose end was lost, raised it
abbrev pub CountedOn : Course → Spawned → Spawned → Type 0
CountedOn on_course before now = now.faults ≡ before.faults
CountedOn (off_course for_chain) before now = before.faults ≤ now.faults
CountedOn (off_course for_spawn) before now = IsCounted before.faults now.faults

abbrev pub FlightsAreCounted : Type 0
FlightsAreCounted =
    (g : Graph) (s : Sources) (kept : Outcomes) (n : Node) (limit : ℕ) (before : Spawned)
    (course : Course) (f : Flight) → Flies g s kept n limit before course f
    → CountedOn course before f.tools

-- The log leads to just what runs, and to the ends of just the calls that were given outcomes, in their order.
abbrev pub FlightsAreLogged : Type 0
FlightsAreLogged =
    (g : Graph) (s : Sources) (kept : Outcomes) (n : Node) (limit : ℕ) (before : Spawned)
    (course : Course) (f : Flight) → Flies g s kept n limit before course f
    → LogLeadsTo before.log f.tools.log (map tool_of f.running) (map job_of (calls_of f.given))

-- ---- what is started

-- the jobs of the starts among events
abbrev pub started_in : List ToolEvent → List Job
started_in [] = []
started_in (Began slot job ∷ events) = job ∷ started_in events
started_in (other ∷ events) = started_in events

-- these were started since, where the log is told
abbrev pub LogHas : Option (List ToolEvent) → Option (List ToolEvent) → List Call → Type 0
LogHas None now calls = now ≡ None
LogHas (Some front) now calls = (events : List ToolEvent) × (now ≡ Some (front ++ events)) × (started_in events ≡ map job_of calls)

-- These calls were started, each once: calls of the node that are not kept, whatever else is known, and no others.
pub record HasStarted (g : Graph) (s : Sources) (kept : Outcomes) (n : Node) (before : Spawned) (f : Flight) : Type 0 where
  pub calls : List Call
  pub once : AreOnce calls
  pub none : (call : Call) → IsIn call calls → kept call ≡ None
  pub each : (outcomes : Outcomes) → HasMore (after kept f.given) outcomes → (call : Call) → IsIn call calls → IsCallFrom g (derived g s outcomes) n call
  pub starts : before.starts ≤ last_count → f.tools.starts ≡ min (before.starts + length calls) last_count
  pub log : LogHas before.log f.tools.log calls

abbrev pub OnlyNeededStarts : Type 0
OnlyNeededStarts =
    (g : Graph) (s : Sources) (kept : Outcomes) (n : Node) (limit : ℕ) (before : Spawned)
    (course : Course) (f : Flight) → Flies g s kept n limit before course f
    → HasStarted g s kept n before f

-- ---- where nothing is to be done

-- No tool was touched: nothing runs, nothing came, no fault was counted, and none was refused.
pub record IsUnflown (before : Spawned) (course : Course) (f : Flight) : Type 0 where
  pub none : f.given ≡ []
  pub idle : f.running ≡ []
  pub told : f.tools ≡ before
  pub unrefused : course ≢ off_course for_spawn

-- A node that is refused by what is kept starts nothing; nor does one whose derivation stops at no call.
abbrev pub RefusedFlyNone : Type 0
RefusedFlyNone =
    (g : Graph) (s : Sources) (kept : Outcomes) (n : Node) (limit : ℕ) (before : Spawned)
    (course : Course) (f : Flight) → Flies g s kept n limit before course f
    → IsRefusedBy g s kept n → IsUnflown before course f

abbrev pub KnownFlyNone : Type 0
KnownFlyNone =
    (g : Graph) (s : Sources) (kept : Outcomes) (n : Node) (limit : ℕ) (before : Spawned)
    (course : Course) (f : Flight) → Flies g s kept n limit before course f
    → ((call : Call) → WaitsForCall g s kept n [] call → ⊥) → IsUnflown before course f
