-- What an edit of the sources does to a store, for callers that don't look into it.
use Rattle.std.specs.Prelude.{◌≡◌, ◌≢◌, ◌↔◌, ◌+◌, List, [], ◌∷◌, Bool, cond, IsTrue, IsFalse, Some, IsSome}
use Rattle.std.specs.FinMap as map
use Rattle.odin_outside.specs.Disk.{Telling}
use Rattle.object_values.specs.Texts.{Text}
use Rattle.odin_journal.specs.declared.fault.JournalFault.{JournalFault}
use Rattle.odin_journal.specs.declared.fault.JournalFault.TheVariants as fault
use Rattle.object_values.specs.declared.items.Item.{Item}
use Rattle.odin_store.specs.declared.store.Store.{Store}
use Rattle.odin_store.specs.Held.{Change, puts, drops, IsDue}
use Rattle.odin_store.specs.OnDisk.{held_in, IsChangeFault, IsOver, IsSame, KeepsNodes, LeavesChange, BeginsOnce}
use Rattle.odin_store.specs.Changes.{DropsSource, PutsText}
use Rattle.odin_store.specs.Going.{IsBatchOf, Performs, StopsPerforming}

-- The sources change exactly where this is so, by the one change, and the epoch rises by one; else nothing is written, and all is as it was. What is
-- in memory of nodes stays.
pub record HasEdited {Disk : Type 0} (told : Disk → Telling) (Changes : Type 0) (change : Change) (store next : Store) (disk after : Disk) (changed : Bool) : Type 0 where
  pub exact : IsTrue changed ↔ Changes
  pub goes : Performs told (cond changed (change ∷ []) []) store next disk after
  pub same : IsFalse changed → IsSame store next disk after
  pub epoch : next.epoch ≡ store.epoch + cond changed 1 0
  pub nodes : KeepsNodes store next

-- a put changes the sources where the source has another text, or isn't there
abbrev pub HasPut : {Disk : Type 0} → (Disk → Telling) → Text → Text → Store → Store → Disk → Disk → Bool → Type 0
HasPut told name text store = HasEdited told (map.get store.sources.texts name ≢ Some text) (puts name text) store

-- a drop where it is there
abbrev pub HasDropped : {Disk : Type 0} → (Disk → Telling) → Text → Store → Store → Disk → Disk → Bool → Type 0
HasDropped told name store = HasEdited told (IsSome (map.get store.sources.texts name)) (drops name) store

-- A change that was due and was not made, or that the disk failed. Where memory was wanting it may not have been due.
abbrev pub HasFailed : {Disk : Type 0} → (Disk → Telling) → Change → Store → Store → Disk → Disk → JournalFault → Type 0
HasFailed told change store next disk after fault.Disk = IsDue change (held_in store) × StopsPerforming told (change ∷ []) store disk after
HasFailed told change store next disk after (fault.Full at some) =
    IsDue change (held_in store) × (IsSame store next disk after × ((items : List Item) × IsBatchOf store.kept.tables.contents change items × IsOver items store.journal.end at some))
HasFailed told change store next disk after (fault.NotOurs at) = ⊥
HasFailed told change store next disk after fault.Memory = IsSame store next disk after

-- The clauses of put_source and drop_source say just this, and those of a fault of any change.
pub record EditsAreTold {Disk : Type 0} (told : Disk → Telling) : Type 0 where
  pub put : (name text : Text) (store next : Store) (disk after : Disk) (changed : Bool) → PutsText told name text store next disk after changed
      → LeavesChange (puts name text) store (told disk) (told after)
      → HasPut told name text store next disk after changed
  pub drop : (name : Text) (store next : Store) (disk after : Disk) (changed : Bool) → DropsSource told name store next disk after changed
      → LeavesChange (drops name) store (told disk) (told after)
      → HasDropped told name store next disk after changed
  pub failed : (change : Change) (store next : Store) (disk after : Disk) (e : JournalFault)
      → IsChangeFault (IsBatchOf store.kept.tables.contents change) change store e → (e ≢ fault.Disk → IsSame store next disk after)
      → LeavesChange change store (told disk) (told after) → BeginsOnce (IsBatchOf store.kept.tables.contents change) store (told disk) (told after)
      → HasFailed told change store next disk after e
