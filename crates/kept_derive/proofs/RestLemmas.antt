-- How a derivation leaves the tools.
use Rattle.std.proofs.Common.{◌≡◌, ◌≤◌, ℕ, [], length, inl, inr, sym, ap, subst, arith, ◌∙◌}
use Rattle.std.specs.Prelude.{Result, Ok, Err}
use Rattle.std.proofs.lemmas.List.{length-map}
use Rattle.object_values.specs.declared.nodes.Node.{Node}
use Rattle.object_values.specs.declared.calls.Call.{Call}
use Rattle.object_values.specs.declared.calls.Outcome.{Outcome}
use Rattle.odin_outside.specs.Disk.{Telling}
use Rattle.odin_outside.specs.Spawned.{Spawned}
use Rattle.meaning_graph.specs.Graphs.{Graph}
use Rattle.derive_walk.specs.Walks.{Walked}
use Rattle.job_runner.specs.Flights.{InFlight, tool_of, HasEnded}
use Rattle.plain_derive.specs.Flights.{Course}
use Rattle.kept_derive.specs.declared.fault.KeptFault.{KeptFault}
use Rattle.kept_derive.specs.declared.fault.KeptFault.TheVariants.{Spawn, Disk, Full, Memory}
use Rattle.kept_derive.specs.Calls.{FailsToLand}
use Rattle.kept_derive.specs.Rests.{LeavesTools, ComesToRest}
use Rattle.kept_derive.specs.Runs.{At}
use Rattle.kept_derive.specs.Ways.{IsOnWay}
use Rattle.kept_derive.proofs.CallLemmas.{out_fewer}

module _ {T : Type 0} (limit : ℕ) (before now : Spawned) (answer : now.answer ≡ before.answer) (later : before.faults ≤ now.faults) where
  -- none runs any more
  pub none_rests : (result : Result T KeptFault) → now.running ≡ [] → ComesToRest LeavesTools limit before now result
  none_rests (Ok value) none = record { answer = answer; later = later; few = omega (arith, ap length none); idle = none; left = tt }
  none_rests (Err fault) none = record { answer = answer; later = later; few = omega (arith, ap length none); idle = tt; left = λ keeps. none }

  -- some may run, after a fault that leaves them
  some_rest : (fault : KeptFault) → LeavesTools fault → length now.running ≤ limit → ComesToRest {T = T} LeavesTools limit before now (Err fault)
  some_rest fault leaves few = record { answer = answer; later = later; few = few; idle = tt; left = λ keeps. absurd (keeps leaves) }

-- whatever another answer is of
pub rests_so : {T V : Type 0} (limit : ℕ) (before now : Spawned) (fault : KeptFault) → ComesToRest {T = T} LeavesTools limit before now (Err fault) → ComesToRest {T = V} LeavesTools limit before now (Err fault)
rests_so limit before now fault rest = record { answer = rest.answer; later = rest.later; few = rest.few; idle = tt; left = rest.left }

module _ {T D : Type 0} (told : D → Telling) (g : Graph) (n : Node) (first : At D) (course : Course) (walked : Walked) (jobs : InFlight) (now : At D) (way : IsOnWay told g n course first walked jobs now) where
  pub way_rests : (fault : KeptFault) → LeavesTools fault → ComesToRest {T = T} LeavesTools jobs.limit first.tools now.tools (Err fault)
  way_rests fault leaves = some_rest jobs.limit first.tools now.tools way.answer way.later fault leaves (omega (arith, way.few, ap length way.running, length-map jobs.running tool_of))

  -- one ended, and no more
  ended_rests : (fault : KeptFault) → LeavesTools fault → (call : Call) (outcome : Outcome) (jobs' : InFlight) (new : At D) → HasEnded call outcome jobs now.tools jobs' new.tools
      → ComesToRest {T = T} LeavesTools jobs.limit first.tools new.tools (Err fault)
  ended_rests fault leaves call outcome jobs' new ended =
      let running = ap (λ (z : Spawned). z.running) ended.told in
      let faults = ap (λ (z : Spawned). z.faults) ended.told in
      some_rest jobs.limit first.tools new.tools (ap (λ (z : Spawned). z.answer) ended.told ∙ way.answer) (subst (λ k. first.tools.faults ≤ k) (sym faults) way.later) fault leaves
      (omega (arith, way.few, ap length running, length-map jobs'.running tool_of, out_fewer ended.slot call jobs jobs' ended.out))

  -- an end after which it stops
  pub fails_rests : (walked' : Walked) (jobs' : InFlight) (new : At D) (fault : KeptFault) → FailsToLand told walked jobs now walked' jobs' new fault → ComesToRest {T = T} LeavesTools jobs.limit first.tools new.tools (Err fault)
  fails_rests walked' jobs' new Spawn none = absurd none
  fails_rests walked' jobs' new Disk has = ended_rests Disk tt has.call has.outcome jobs' new has.ended
  fails_rests walked' jobs' new (Full end count) has = ended_rests (Full end count) tt has.call has.outcome jobs' new has.ended
  fails_rests walked' jobs' new Memory (inl held) = elim held.may [
    | inl none ↦ subst (λ (z : Spawned). ComesToRest {T = T} LeavesTools jobs.limit first.tools z (Err Memory)) (sym none.1) (way_rests Memory tt)
    | inr up ↦ ended_rests Memory tt up.call up.outcome jobs' new up.ended
  ]
  fails_rests walked' jobs' new Memory (inr has) = ended_rests Memory tt has.call has.outcome jobs' new has.ended
