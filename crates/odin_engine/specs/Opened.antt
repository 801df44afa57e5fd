-- The opening of an engine: that of its store, and a compaction where it is wasteful.
use Rattle.std.specs.Prelude.{◌≡◌, ◌⊎◌, ℕ, ◌+◌, ◌≤◌, List, length, Option}
use Rattle.object_values.specs.declared.facts.Fact.{Fact}
use Rattle.object_values.specs.declared.graph.Decl.{Decl}
use Rattle.dg_reader.specs.Files.{IsRead}
use Rattle.odin_outside.specs.Disk.{Telling, IsQuiet}
use Rattle.odin_journal.specs.Rest.{IsReady}
use Rattle.odin_journal.specs.Rewrites.{copy_size}
use Rattle.odin_journal.specs.declared.fault.JournalFault.{JournalFault}
use Rattle.odin_journal.specs.declared.fault.JournalFault.TheVariants as fault
use Rattle.odin_store.specs.declared.store.Store.{Store}
use Rattle.odin_store.specs.Compacting.{wasteful_size, IsWasteful, Compacts, HasNoRoomForCopy, LeavesCompacted}
use Rattle.odin_store.specs.OnDisk.{held_in, IsOn, IsSame}
use Rattle.odin_store.specs.Opening.{IsAtFirst, IsStoreOpenFault, LeavesHeld, LeavesOpening, OpensStore, OpensQuietStore}
use Rattle.meaning_texts.specs.Limits.{graph_limit}
use Rattle.kept_derive.specs.Knowing.{RecordsAreTrue, KnowsStore}
use Rattle.odin_engine.specs.Engaged.{Engaged, IsLimit}

-- The text is one of this graph, and from 1 to 64 tools may run at once.
pub record MayOpen (text : List ℕ) (graph : List Decl) (jobs : ℕ) : Type 0 where
  pub read : IsRead text graph
  pub limit : IsLimit jobs

-- The engine has this graph and this limit and counts no edit yet, and it may be used over a disk of this size. Where what is held of nodes is true, it is
-- known.
pub record EngineIsNew (graph : List Decl) (jobs size : ℕ) (engine : Engaged) : Type 0 where
  pub graph_is : engine.graph ≡ graph
  pub jobs_is : engine.jobs ≡ jobs
  pub first : IsAtFirst engine.store
  pub ready : IsReady engine.store.journal size
  pub knows : RecordsAreTrue graph (held_in engine.store) → KnowsStore graph engine.store

-- ---- what follows on the opening of a store

-- A wasteful store is compacted, unless a copy fits in neither place; then, and where it isn't wasteful, it is as it was opened.
pub data Settles {Disk : Type 0} (told : Disk → Telling) (first store : Store) (mid new : Disk) : Type 0 where
  let_be : ¬ IsWasteful first → IsSame first store mid new → Settles told first store mid new
  no_room : IsWasteful first → HasNoRoomForCopy first → IsSame first store mid new → Settles told first store mid new
  compacted : IsWasteful first → Compacts first store (told mid) (told new) → LeavesCompacted first (told mid) (told new) → Settles told first store mid new

-- a crash leaves what there was, or what a compaction of a wasteful store may leave
abbrev pub LeavesSettled : {Disk : Type 0} → (Disk → Telling) → Store → Disk → Disk → Type 0
LeavesSettled told first mid new = (new ≡ mid) ⊎ (IsWasteful first × LeavesCompacted first (told mid) (told new))

-- The disk fails a wasteful store alone. Memory is wanting for one whose records are long, and all is as it was opened.
abbrev pub IsSettleFault : {Disk : Type 0} → Store → Disk → Disk → JournalFault → Type 0
IsSettleFault first mid new fault.Disk = IsWasteful first
IsSettleFault first mid new fault.Memory = (new ≡ mid) × (wasteful_size ≤ first.journal.end)
IsSettleFault first mid new other = ⊥

-- ---- the whole of it

-- The store was opened, which ended at a moment between; and then it was compacted where it is wasteful.
pub record OpensEngine {Disk : Type 0} (told : Disk → Telling) (graph : List ℕ) (old new : Disk) (store : Store) : Type 0 where
  pub mid : Disk
  pub first : Store
  pub opens : OpensStore graph (told old) (told mid) first
  pub crash : LeavesOpening graph (told old) (told mid)
  pub settles : Settles told first store mid new

-- of a disk on which nothing is pending
abbrev pub OpensQuietEngine : {Disk : Type 0} → (Disk → Telling) → List ℕ → Disk → Disk → Store → Type 0
OpensQuietEngine told graph old new store = IsQuiet (told old) → OpensEngine told graph old new store

-- the records that the file has then: the live ones, or those from before with the batch of the opening
abbrev pub settled_records : {Disk : Type 0} {told : Disk → Telling} {first store : Store} {mid new : Disk} → Settles told first store mid new → List (List ℕ) → List (List ℕ)
settled_records (let_be sparing same) records = records
settled_records (no_room wasteful full same) records = records
settled_records (compacted wasteful compacts leaves) records = compacts.records

-- what was noted before them since the last graph
abbrev pub settled_noted : {Disk : Type 0} {told : Disk → Telling} {first store : Store} {mid new : Disk} → Settles told first store mid new
    → (records : List (List ℕ)) (graph : Option (List ℕ)) → IsOn (told mid) first records graph → List Fact
settled_noted (let_be sparing same) records graph on = on.noted
settled_noted (no_room wasteful full same) records graph on = on.noted
settled_noted (compacted wasteful compacts leaves) records graph on = (compacts.on records graph on).noted

-- the bytes and the calls that a compaction adds to the work
abbrev pub settled_bytes : {Disk : Type 0} {told : Disk → Telling} {first store : Store} {mid new : Disk} → Settles told first store mid new → ℕ
settled_bytes (let_be sparing same) = 0
settled_bytes (no_room wasteful full same) = 0
settled_bytes (compacted wasteful compacts leaves) = copy_size compacts.records + 9

abbrev pub settled_calls : {Disk : Type 0} {told : Disk → Telling} {first store : Store} {mid new : Disk} → Settles told first store mid new → ℕ
settled_calls (let_be sparing same) = 0
settled_calls (no_room wasteful full same) = 0
settled_calls (compacted wasteful compacts leaves) = 8

-- ---- at any moment

-- A crash leaves what it may leave of the opening of the store; or this was opened and is wasteful, and a crash since leaves what it may of
-- its compaction.
pub data LeavesEngineOpening {Disk : Type 0} (told : Disk → Telling) (graph : List ℕ) (old new : Disk) : Type 0 where
  opening : LeavesOpening graph (told old) (told new) → LeavesEngineOpening told graph old new
  compaction : (first : Store) (mid : Disk) → OpensQuietStore graph (told old) (told mid) first → LeavesOpening graph (told old) (told mid) → IsWasteful first
      → LeavesCompacted first (told mid) (told new) → LeavesEngineOpening told graph old new

-- so it leaves what the file stood for
abbrev pub EngineOpeningsKeepHeld : {Disk : Type 0} → (Disk → Telling) → Type 0
EngineOpeningsKeepHeld {Disk} told =
    (graph : List ℕ) (old new : Disk) → length graph ≤ graph_limit → LeavesEngineOpening told graph old new → LeavesHeld graph (told old) (told new)

-- Memory is wanting for the opening of the store, or, where its records are long, after it.
abbrev pub LacksMemory : {Disk : Type 0} → (Disk → Telling) → List ℕ → Disk → Disk → Type 0
LacksMemory told graph old new =
    IsStoreOpenFault graph (told old) (told new) fault.Memory
    ⊎ ((first : Store) × OpensQuietStore graph (told old) (told new) first × (wasteful_size ≤ first.journal.end))

-- A fault of an opening: that of the store's, or want of memory after it, or the disk's.
abbrev pub IsEngineOpenFault : {Disk : Type 0} → (Disk → Telling) → List ℕ → Disk → Disk → JournalFault → Type 0
IsEngineOpenFault told graph old new fault.Memory = LacksMemory told graph old new
IsEngineOpenFault told graph old new other = IsStoreOpenFault graph (told old) (told new) other
