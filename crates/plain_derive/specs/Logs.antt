-- What is told of the calls that a derivation makes, one after another.
use Rattle.std.specs.Prelude.{◌≡◌, ◌≢◌, ◌≤◌, ◌⊎◌, Result, Err, cond, List, [], ◌∷◌, ◌++◌, length, None, IsSome}
use Rattle.object_values.specs.declared.nodes.Node.{Node}
use Rattle.object_values.specs.declared.calls.Call.{Call}
use Rattle.odin_outside.specs.declared.events.ToolEvent.{ToolEvent}
use Rattle.odin_outside.specs.declared.events.ToolEvent.TheVariants.{Began, Ended, Lost}
use Rattle.odin_outside.specs.Causes.{IsCounted}
use Rattle.odin_outside.specs.Spawned.{Spawned, begun, noted, Fails}
use Rattle.meaning_calls.specs.Jobs.{job_of}
use Rattle.meaning_graph.specs.Graphs.{Graph}
use Rattle.meaning_derive.specs.Derive.{Sources, Outcomes}
use Rattle.meaning_derive.specs.Calls.{IsFrontier}
use Rattle.derive_walk.specs.Calls.{call_in}
use Rattle.derive_walk.specs.declared.found.Found.{Found}
use Rattle.derive_walk.specs.Founds.{IsFound}
use Rattle.derive_walk.specs.Outcomes.{nothing_known}
use Rattle.job_runner.specs.declared.fault.JobFault.{JobFault}
use Rattle.job_runner.specs.declared.fault.JobFault.TheVariants.{Spawn, Memory}
use Rattle.plain_derive.specs.Given.{IsRefusedBy}
use Rattle.plain_derive.specs.Made.{AreGivenBy}

-- ---- one call, made while nothing else runs

-- its job has started in slot 0
abbrev pub spawned_after_start : Spawned → Call → Spawned
spawned_after_start before call = begun before 0 (job_of call)

-- it has stopped there, by this event
abbrev pub closed : Spawned → Call → ToolEvent → Spawned
closed before call event = record (spawned_after_start before call) {
  running = [];
  log = noted (noted before.log (Began 0 (job_of call))) event;
}

-- Its end was lost: a fault, which was counted.
pub record HasLostEnd (call : Call) (before now : Spawned) : Type 0 where
  pub counted : IsCounted before.faults now.faults
  pub is : now ≡ record (closed before call (Lost 0)) { faults = now.faults }

-- What is left of a call that was given up. Memory may be wanting before its start, before its end,
-- and after it. Otherwise it was not started, or its end was lost: then it has not ended, and the
-- fault was counted.
abbrev pub IsCut : JobFault → Call → Spawned → Spawned → Type 0
IsCut Memory call before now =
    (now ≡ before) ⊎ ((now ≡ spawned_after_start before call) ⊎ (now ≡ closed before call (Ended 0)))
IsCut Spawn call before now = Fails before now ⊎ HasLostEnd call before now

-- Memory was wanting, and nothing happened.
pub record IsOutOfMemory (fault : JobFault) (before now : Spawned) : Type 0 where
  pub memory : fault ≡ Memory
  pub same : now ≡ before

-- These calls were made, one after another, and nothing else happened.
abbrev pub after_calls : Spawned → List Call → Spawned
after_calls before [] = before
after_calls before (call ∷ calls) = after_calls (closed before call (Ended 0)) calls

-- ---- the calls of a derivation

-- the outcomes of these calls alone
abbrev pub among : Outcomes → List Call → Outcomes
among outcomes calls call = cond (call_in call calls) (outcomes call) None

-- Each is a call at which the derivation stops by the outcomes of those before it alone, and has an
-- outcome itself.
pub data AreMade (g : Graph) (s : Sources) (outcomes : Outcomes) (n : Node)
    : List Call → Type 0 where
  none_made : AreMade g s outcomes n []
  one_more : (calls : List Call) (call : Call) → AreMade g s outcomes n calls
      → IsFrontier g s (among outcomes calls) n call → IsSome (outcomes call)
      → AreMade g s outcomes n (calls ++ call ∷ [])

-- with nothing known the node has a chain for which it is refused
abbrev pub IsRefusedAtOnce : Graph → Sources → Node → Type 0
IsRefusedAtOnce g s n = IsRefusedBy g s nothing_known n

-- These calls of the derivation were made, and nothing else happened; nothing at all for a node that
-- is refused at once.
pub record HasMade (g : Graph) (s : Sources) (outcomes : Outcomes) (n : Node) (calls : List Call)
    (before now : Spawned) : Type 0 where
  pub are : AreMade g s outcomes n calls
  pub now_is : now ≡ after_calls before calls
  pub untouched : IsRefusedAtOnce g s n → now ≡ before

-- The next call of the derivation, after these, was given up.
pub record NextIsCut (g : Graph) (s : Sources) (outcomes : Outcomes) (n : Node) (calls : List Call)
    (fault : JobFault) (before now : Spawned) : Type 0 where
  pub call : Call
  pub stops : IsFrontier g s (among outcomes calls) n call
  pub cut : IsCut fault call before now

-- Calls of the derivation were made, and then memory was wanting, or the next one was given up.
pub record IsPartialRun (g : Graph) (s : Sources) (outcomes : Outcomes) (n : Node) (fault : JobFault)
    (before now : Spawned) : Type 0 where
  pub calls : List Call
  pub are : AreMade g s outcomes n calls
  pub cut : IsOutOfMemory fault (after_calls before calls) now
      ⊎ NextIsCut g s outcomes n calls fault (after_calls before calls) now
  pub untouched : IsRefusedAtOnce g s n → now ≡ before

-- ---- what came of it

-- By outcomes that the tools gave calls were made, and this was found by the outcomes of these calls
-- alone.
pub record HasDerived (g : Graph) (s : Sources) (n : Node) (before now : Spawned)
    (found : Found) : Type 0 where
  pub outcomes : Outcomes
  pub given : AreGivenBy before.answer outcomes
  pub calls : List Call
  pub made : HasMade g s outcomes n calls before now
  pub is : IsFound g s (among outcomes calls) n found

-- By outcomes that the tools gave the derivation was begun, and then given up.
pub record HasGivenUp (g : Graph) (s : Sources) (n : Node) (before now : Spawned)
    (fault : JobFault) : Type 0 where
  pub outcomes : Outcomes
  pub given : AreGivenBy before.answer outcomes
  pub begun : IsPartialRun g s outcomes n fault before now

-- The tools answer as before, at most one of them runs, and none unless memory was wanting.
pub record ComeToRest (before now : Spawned) (result : Result Found JobFault) : Type 0 where
  pub answer : now.answer ≡ before.answer
  pub one : length now.running ≤ 1
  pub idle : result ≢ Err Memory → now.running ≡ []
