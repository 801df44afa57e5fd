-- A store as one that keeps changes on a disk, one after another.
use Rattle.std.specs.Prelude.{◌≡◌, ℕ, List, [], Option}
use Rattle.odin_outside.specs.Disk.{Telling, IsQuiet, MayLeave}
use Rattle.object_values.specs.Texts.{Text}
use Rattle.odin_journal.specs.Trails as trails
use Rattle.object_values.specs.declared.items.Item.{Item}
use Rattle.odin_store.specs.declared.store.Store.{Store}
use Rattle.odin_store.specs.Held.{Held, Change, apply, StandsFor}
use Rattle.odin_store.specs.OnDisk.{held_in, IsOn, LeavesChange, Appends, IsSame}
use Rattle.odin_store.specs.Opening.{OpensStore, LeavesOpening}
use Rattle.odin_store.specs.Written.{record_keeping}

-- The store rests on a disk whose records read as this.
pub record Rests (disk : Telling) (store : Store) (held : Held) : Type 0 where
  pub records : List (List ℕ)
  pub graph : Option Text
  pub on : IsOn disk store records graph
  pub holds : held ≡ held_in store

abbrev pub store_keeping : trails.Keeping Held Change Store
store_keeping = record { apply = apply; StandsFor = StandsFor; Rests = Rests }

-- The clauses of the calls make these trails.
pub record KeepsChanges {Disk : Type 0} (told : Disk → Telling) : Type 0 where
  -- an opened store is a trail with no change, and one of records with the batch of the opening
  pub opens : (graph : Text) (store : Store) (old new : Disk) → IsQuiet (told old) → OpensStore graph (told old) (told new) store → LeavesOpening graph (told old) (told new)
      → trails.Trail store_keeping (held_in store) (told old) [] store (told new)
  pub records : (graph : Text) (store : Store) (old new : Disk) → IsQuiet (told old) → (opened : OpensStore graph (told old) (told new) store) → LeavesOpening graph (told old) (told new)
      → trails.Trail record_keeping opened.records (told old) opened.opening store (told new)
  -- a call that made a change keeps it
  pub keeps : (items : List Item) (change : Change) (store next : Store) (old new : Disk) → held_in next ≡ apply change (held_in store) → Appends items store next (told old) (told new)
      → LeavesChange change store (told old) (told new) → trails.KeepsChange store_keeping change (told old) store (told new) next
  -- one that the disk failed stops in it
  pub stops : (change : Change) (store : Store) (old new : Disk) → LeavesChange change store (told old) (told new) → trails.StopsIn store_keeping change (told old) store (told new)
  -- and one that left all as it was changes nothing
  pub same : (store next : Store) (disk after : Disk) (held : Held) → IsSame store next disk after → Rests (told disk) store held → Rests (told after) next held
  -- what a crash leaves of a store at rest stands for what it holds
  pub durable : (disk : Disk) (store : Store) (held : Held) → Rests (told disk) store held → (image : List ℕ) → MayLeave (told disk) image → StandsFor held image
