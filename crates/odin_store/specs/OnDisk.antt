-- A store on its disk.
use Rattle.std.specs.Prelude.{◌≡◌, ◌⊎◌, ⊤, ℕ, ◌+◌, ◌^◌, ◌<◌, List, [], ◌∷◌, ◌++◌, length, Option, Some, IsTrue, Result, OnOk, IsErrOf}
use Rattle.odin_outside.specs.Disk.{Telling, IsQuiet, LeavesOnly}
use Rattle.object_values.specs.declared.facts.Fact.{Fact}
use Rattle.object_values.specs.Texts.{Text}
use Rattle.meaning_records.specs.Front.{file_limit}
use Rattle.meaning_records.specs.Images.{gate_after, with_record}
use Rattle.odin_journal.specs.Moments.{Works}
use Rattle.odin_journal.specs.Rest.{RestsOn, IsReady}
use Rattle.odin_journal.specs.declared.fault.JournalFault.{JournalFault}
use Rattle.odin_journal.specs.declared.fault.JournalFault.TheVariants as fault
use Rattle.object_values.specs.declared.items.Item.{Item}
use Rattle.meaning_records.specs.States.{State, nothing, ReadsAll, spell_batch}
use Rattle.odin_store.specs.declared.store.Store.{Store}
use Rattle.odin_store.specs.Held.{Held, NotedFit, Change, apply, IsDue, StandsFor}
use Rattle.odin_store.specs.Written.{WorksFor, LeavesFirst}

-- what a store holds: its file ends in its own graph, so what is noted of nodes counts
abbrev pub held_in : Store → Held
held_in store = record { text = store.graph; sources = store.sources.texts; calls = store.kept.tables.calls; records = store.kept.tables.records }

-- with this graph as the last, and with all this noted since
abbrev pub state_in : Store → Option Text → List Fact → State
state_in store graph noted = record { tables = store.kept.tables; sources = store.sources.texts; graph = graph; noted = noted }

-- The store rests on a disk with these records: nothing is pending, and they read as what the store holds, with this graph as the last,
-- whose text it keeps. Of what was noted, which fits, it keeps the last of each node.
pub record IsOn (disk : Telling) (store : Store) (records : List (List ℕ)) (graph : Option Text) : Type 0 where
  pub noted : List Fact
  pub rests : RestsOn disk records store.journal
  pub read : ReadsAll nothing records (state_in store graph noted)
  pub last : graph ≡ Some store.graph
  pub fit : NotedFit store.graph (state_in store graph noted)

-- a store that can be changed, on a disk of this size
pub record StoreIsOpen (store : Store) (size : ℕ) : Type 0 where
  pub journal : IsReady store.journal size
  pub early : store.epoch < 2 ^ 63

-- a crash at any moment leaves what the store held, or that with the change
abbrev pub LeavesChange : Change → Store → Telling → Telling → Type 0
LeavesChange change store old new =
    (records : List (List ℕ)) (graph : Option Text) → IsOn old store records graph
    → LeavesOnly old new (λ image. StandsFor (held_in store) image ⊎ StandsFor (apply change (held_in store)) image)

-- A batch of these items was added to the records, where it fitted, and nothing else was written.
pub record Appends (items : List Item) (store next : Store) (old new : Telling) : Type 0 where
  pub end : next.journal.end ≡ gate_after store.journal.end (spell_batch items)
  pub room : next.journal.end < file_limit
  pub on : (records : List (List ℕ)) (graph : Option Text) → IsOn old store records graph → IsOn new next (records ++ spell_batch items ∷ []) graph
  pub bytes : IsQuiet old → new.seen ≡ with_record store.journal.end (spell_batch items) old.seen
  pub leaves : LeavesFirst store (spell_batch items ∷ []) old new
  pub works : Works (length (spell_batch items) + 6) 4 old new

-- some such batch: that one, and no other
abbrev pub AddsBatch : (List Item → Type 0) → Store → Store → Telling → Telling → Type 0
AddsBatch IsBatch store next old new = (items : List Item) × IsBatch items × Appends items store next old new

-- such a batch doesn't fit after this end, and these are the two numbers
pub record IsOver (items : List Item) (end at some : ℕ) : Type 0 where
  pub at_is : at ≡ end
  pub some_is : some ≡ length (spell_batch items)
  pub over : file_limit < end + 6 + length (spell_batch items)

-- A fault of a change: it was due, unless memory was wanting. `Full` tells the journal's end and the length of the batch that doesn't fit.
abbrev pub IsChangeFault : (List Item → Type 0) → Change → Store → JournalFault → Type 0
IsChangeFault IsBatch change store fault.Memory = ⊤
IsChangeFault IsBatch change store fault.Disk = IsDue change (held_in store)
IsChangeFault IsBatch change store (fault.Full at some) =
    IsDue change (held_in store) × ((items : List Item) × IsBatch items × IsOver items store.journal.end at some)
IsChangeFault IsBatch change store (fault.NotOurs at) = ⊥

-- what a store is after a change: it can be changed on, or is spent
pub record StoreAfter {T : Type 0} (store : Store) (size : ℕ) (result : Result T JournalFault) : Type 0 where
  pub ready : OnOk result (IsReady store.journal size)
  pub spent : IsErrOf result fault.Disk → IsTrue store.journal.spent

-- what the store has of nodes in memory is as it was: what each comes to at present, and when that was checked
abbrev pub KeepsNodes : Store → Store → Type 0
KeepsNodes store next = next.kept.records.records ≡ store.kept.records.records

-- a store is as it was, but for what it has reserved and what it has of nodes in memory
pub record HoldsOn (store next : Store) : Type 0 where
  pub journal : next.journal ≡ store.journal
  pub tables : next.kept.tables ≡ store.kept.tables
  pub sources : next.sources.texts ≡ store.sources.texts
  pub graph : next.graph ≡ store.graph
  pub epoch : next.epoch ≡ store.epoch

-- A store is as it was, but for what it has reserved, and so is its disk.
pub record IsSame {D : Type 0} (store next : Store) (disk after : D) : Type 0 where
  pub disk_is : after ≡ disk
  pub store_is : HoldsOn store next
  pub nodes : KeepsNodes store next

-- no batch, or one such
abbrev pub IsOneOf : (List Item → Type 0) → List (List ℕ) → Type 0
IsOneOf IsBatch begun = (begun ≡ []) ⊎ ((items : List Item) × IsBatch items × (begun ≡ spell_batch items ∷ []))

-- One such batch was begun at most: no more work was done than for it, and a crash leaves the records with it or without.
pub record BeginsOnce (IsBatch : List Item → Type 0) (store : Store) (old new : Telling) : Type 0 where
  pub begun : List (List ℕ)
  pub one : IsOneOf IsBatch begun
  pub works : WorksFor begun old new
  pub leaves : LeavesFirst store begun old new
