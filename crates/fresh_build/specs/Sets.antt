-- What is done to make the sources just those that are wanted, and where it stops.
use Rattle.std.specs.Prelude.{◌≡◌, ◌+◌, ◌^◌, ◌≤◌, ℕ, List, [], ◌∷◌, ◌++◌, length}
use Rattle.object_values.specs.Texts.{Texts}
use Rattle.odin_outside.specs.Disk.{Telling}
use Rattle.meaning_derive.specs.Given.{AreSources}
use Rattle.odin_journal.specs.declared.fault.JournalFault.{JournalFault}
use Rattle.odin_journal.specs.declared.fault.JournalFault.TheVariants as fault
use Rattle.odin_journal.specs.Rest.{IsReady}
use Rattle.odin_store.specs.declared.store.Store.{Store}
use Rattle.odin_store.specs.Held.{Change}
use Rattle.odin_store.specs.OnDisk.{held_in, IsSame}
use Rattle.odin_store.specs.Going.{Performs}
use Rattle.odin_store.specs.Edited.{HasFailed}
use Rattle.kept_derive.specs.Knowing.{StaysKnown}
use Rattle.fresh_build.specs.declared.edits.Edit.{Edit}
use Rattle.fresh_build.specs.Edits.{changes_of, changes_to, AreShort, AreDue}

-- ---- conditions

-- The store can be changed, and its count of edits, which is 0 as it is opened, has room for as many more as fit into memory; the wanted
-- sources have names and texts as sources have.
pub record MaySet (store : Store) (size : ℕ) (wanted : Texts) : Type 0 where
  pub ready : IsReady store.journal size
  pub early : store.epoch ≤ 2 ^ 62
  pub fit : AreSources wanted

-- These edits may be made, one after another, and each changes the sources.
pub record MayMake (store : Store) (size : ℕ) (edits : List Edit) : Type 0 where
  pub ready : IsReady store.journal size
  pub early : store.epoch + length edits ≤ 2 ^ 63
  pub due : AreDue (changes_of edits) (held_in store)
  pub short : AreShort (changes_of edits)

-- ---- what was done

-- These changes were made, one after another, and nothing else; where there are none, nothing is written. What was known of nodes still is.
pub record MakesChanges {Disk : Type 0} (told : Disk → Telling) (changes : List Change) (store next : Store) (disk after : Disk) : Type 0 where
  pub goes : Performs told changes store next disk after
  pub epoch : next.epoch ≡ store.epoch + length changes
  pub none : changes ≡ [] → IsSame store next disk after
  pub knows : StaysKnown store next

-- The sources are just those that are wanted, by the edits that this takes, and the kept calls stay. Where the sources were these, nothing
-- is written.
pub record SetsSources {Disk : Type 0} (told : Disk → Telling) (wanted : Texts) (store next : Store) (disk after : Disk) : Type 0 where
  pub set : next.sources.texts ≡ wanted
  pub calls : next.kept.tables.calls ≡ store.kept.tables.calls
  pub makes : MakesChanges told (changes_to wanted store.sources.texts) store next disk after
  pub same : store.sources.texts ≡ wanted → IsSame store next disk after

-- ---- where it stops

-- Some first ones of these changes were made, and the next one failed for this fault.
pub record StopsAtChange {Disk : Type 0} (told : Disk → Telling) (changes : List Change) (store next : Store) (disk after : Disk)
    (given : JournalFault) : Type 0 where
  pub made : List Change
  pub change : Change
  pub rest : List Change
  pub whole : changes ≡ made ++ change ∷ rest
  pub mid : Store
  pub between : Disk
  pub goes : Performs told made store mid disk between
  pub failed : HasFailed told change mid next between after given

-- Some first ones of these changes were made, and nothing else.
pub record StopsAfterSome {Disk : Type 0} (told : Disk → Telling) (changes : List Change) (store next : Store) (disk after : Disk) : Type 0 where
  pub made : List Change
  pub rest : List Change
  pub whole : changes ≡ made ++ rest
  pub goes : Performs told made store next disk after

-- why not all of these changes were made
abbrev pub FailsToMake : {Disk : Type 0} → (Disk → Telling) → List Change → Store → Store → Disk → Disk → JournalFault → Type 0
FailsToMake told changes store next disk after fault.Disk = StopsAtChange told changes store next disk after fault.Disk
FailsToMake told changes store next disk after (fault.NotOurs at) = ⊥
FailsToMake told changes store next disk after (fault.Full at size) = StopsAtChange told changes store next disk after (fault.Full at size)
FailsToMake told changes store next disk after fault.Memory = StopsAfterSome told changes store next disk after
