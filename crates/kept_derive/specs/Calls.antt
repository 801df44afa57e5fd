-- Calls that are kept as their tools end.
use Rattle.std.specs.Prelude.{◌≡◌, ◌⊎◌, ◌<◌, ℕ, [], ◌∷◌, length, None}
use Rattle.object_values.specs.declared.calls.Call.{Call}
use Rattle.object_values.specs.declared.calls.Outcome.{Outcome}
use Rattle.odin_outside.specs.Disk.{Telling}
use Rattle.odin_outside.specs.Spawned.{Spawned}
use Rattle.meaning_texts.specs.Lists.{IsIn}
use Rattle.meaning_graph.specs.Graphs.{Graph}
use Rattle.meaning_graph.specs.Grammar.{GraphText}
use Rattle.meaning_calls.specs.Jobs.{IsWellFormed}
use Rattle.odin_journal.specs.declared.fault.JournalFault.{JournalFault}
use Rattle.odin_journal.specs.declared.fault.JournalFault.TheVariants as store
use Rattle.odin_journal.specs.Rest.{IsReady}
use Rattle.odin_store.specs.declared.store.Store.{Store}
use Rattle.odin_store.specs.Held.{keeps}
use Rattle.odin_store.specs.OnDisk.{IsSame, KeepsNodes}
use Rattle.odin_store.specs.Going.{Performs}
use Rattle.odin_store.specs.Edited.{HasFailed}
use Rattle.derive_walk.specs.Walks.{Walked, OutcomeIsGiven}
use Rattle.derive_walk.specs.Calls.{AreOnce}
use Rattle.job_runner.specs.Flights.{InFlight, calls_in, AreTold, AreDistinct, HasEnded, HasLost, MayHaveEnded}
use Rattle.kept_derive.specs.declared.landing.Landed.{Landed}
use Rattle.kept_derive.specs.declared.landing.Landed.TheVariants.{Kept, Lost}
use Rattle.kept_derive.specs.declared.fault.KeptFault.{KeptFault}
use Rattle.kept_derive.specs.declared.fault.KeptFault.TheVariants.{Spawn, Disk, Full, Memory}
use Rattle.kept_derive.specs.Knowing.{known_in}
use Rattle.kept_derive.specs.Runs.{At}

-- the store can be changed, and no tool runs
pub record IsIdle (store : Store) (size : ℕ) (tools : Spawned) : Type 0 where
  pub ready : IsReady store.journal size
  pub none : tools.running ≡ []

-- It is one for the graph, and one tool at least may run.
pub record MayDerive (g : Graph) (store : Store) (size limit : ℕ) (tools : Spawned) : Type 0 where
  pub idle : IsIdle store size tools
  pub spelled : GraphText store.graph g
  pub some : 0 < limit

-- a call that may be kept, as far as its outcome goes
pub record IsKeepable (store : Store) (call : Call) : Type 0 where
  pub formed : IsWellFormed call
  pub new : known_in store call ≡ None

-- Each call that runs is wanted, and may be kept as it ends.
pub record MayDrain (walked : Walked) (jobs : InFlight) (store : Store) (size : ℕ) (tools : Spawned) : Type 0 where
  pub told : AreTold jobs.running tools
  pub apart : AreDistinct (calls_in jobs.running)
  pub once : AreOnce walked.wanted
  pub wanted : (call : Call) → IsIn call (calls_in jobs.running) → IsIn call walked.wanted
  pub keepable : (call : Call) → IsIn call (calls_in jobs.running) → IsKeepable store call
  pub ready : IsReady store.journal size

-- and one at least runs
pub record MayLand (walked : Walked) (jobs : InFlight) (store : Store) (size : ℕ) (tools : Spawned) : Type 0 where
  pub may : MayDrain walked jobs store size tools
  pub one : 0 < length jobs.running

-- ---- what came of one end

module _ {D : Type 0} (told : D → Telling) (walked : Walked) (jobs : InFlight) (old : At D) (walked' : Walked) (jobs' : InFlight) (new : At D) where
  -- A call came to an outcome of its own, was kept with it, and was given to the walk; and nothing else happened.
  pub record HasLanded : Type 0 where
    pub call : Call
    pub outcome : Outcome
    pub ended : HasEnded call outcome jobs old.tools jobs' new.tools
    pub goes : Performs told (keeps call outcome ∷ []) old.store new.store old.disk new.disk
    pub epoch : new.store.epoch ≡ old.store.epoch
    pub nodes : KeepsNodes old.store new.store
    pub given : OutcomeIsGiven call outcome walked walked'

  -- An end was lost, and nothing else happened.
  pub record HasCrashed : Type 0 where
    pub lost : HasLost jobs old.tools jobs' new.tools
    pub same : IsSame old.store new.store old.disk new.disk
    pub walk : walked' ≡ walked

  -- A call came to an outcome with which it was not kept, for the fault.
  pub record HasSpilled (fault : JournalFault) : Type 0 where
    pub call : Call
    pub outcome : Outcome
    pub ended : HasEnded call outcome jobs old.tools jobs' new.tools
    pub failed : HasFailed told (keeps call outcome) old.store new.store old.disk new.disk fault

  -- Memory was wanting before the call that ended, if one did, was kept.
  pub record IsHeldUp : Type 0 where
    pub may : MayHaveEnded jobs old.tools jobs' new.tools
    pub same : IsSame old.store new.store old.disk new.disk

  -- Memory was wanting after it was kept.
  pub record IsUngiven : Type 0 where
    pub call : Call
    pub outcome : Outcome
    pub ended : HasEnded call outcome jobs old.tools jobs' new.tools
    pub goes : Performs told (keeps call outcome ∷ []) old.store new.store old.disk new.disk
    pub epoch : new.store.epoch ≡ old.store.epoch

  -- what came of an end
  abbrev pub Lands : Landed → Type 0
  Lands Kept = HasLanded
  Lands Lost = HasCrashed

  -- and what was done where the landing ends in a fault: a lost end is none
  abbrev pub FailsToLand : KeptFault → Type 0
  FailsToLand Spawn = ⊥
  FailsToLand Disk = HasSpilled store.Disk
  FailsToLand (Full at some) = HasSpilled (store.Full at some)
  FailsToLand Memory = IsHeldUp ⊎ IsUngiven
