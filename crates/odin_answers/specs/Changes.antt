-- What an edit of a source changes in the store of an engine, and how it fails.
use Rattle.std.specs.Prelude.{◌≡◌, ◌⊎◌, ℕ, ◌+◌, ◌≤◌, List, [], ◌∷◌, length, cond, Option, Some, None}
use Rattle.std.specs.Str.{bytes_eq}
use Rattle.std.specs.FinMap.{get, insert}
use Rattle.object_values.specs.Texts.{Text, Texts}
use Rattle.odin_outside.specs.Disk.{Telling}
use Rattle.odin_outside.specs.Files.{Files, IsGiven}
use Rattle.meaning_texts.specs.Limits.{body_limit}
use Rattle.odin_journal.specs.declared.fault.JournalFault.{JournalFault}
use Rattle.odin_journal.specs.declared.fault.JournalFault.TheVariants as fault
use Rattle.odin_store.specs.declared.store.Store.{Store}
use Rattle.odin_store.specs.Held.{Change, puts, drops}
use Rattle.odin_store.specs.OnDisk.{StoreIsOpen, IsSame}
use Rattle.odin_store.specs.Going.{Performs}
use Rattle.odin_store.specs.Edited.{HasFailed}
use Rattle.kept_derive.specs.Knowing.{StaysKnown}

-- ---- changes

-- the change of a source that had the one text and has the other
abbrev pub source_changes : Text → Option Text → Option Text → List Change
source_changes name None None = []
source_changes name (Some old) None = drops name ∷ []
source_changes name None (Some text) = puts name text ∷ []
source_changes name (Some old) (Some text) = cond (bytes_eq old text) [] (puts name text ∷ [])

-- the change of an edit of this source, where these were the texts and those are
abbrev pub edit_changes : Text → Texts → Texts → List Change
edit_changes name old new = source_changes name (get old name) (get new name)

-- The store went by the change of this source, where it changed at all, and its epoch rose by as much. What was known of nodes still is.
pub record EditsSource {Disk : Type 0} (told : Disk → Telling) (name : Text) (store next : Store) (disk after : Disk) : Type 0 where
  pub goes : Performs told (edit_changes name store.sources.texts next.sources.texts) store next disk after
  pub epoch : next.epoch ≡ store.epoch + length (edit_changes name store.sources.texts next.sources.texts)
  pub knows : StaysKnown store next

-- And the source has this text now.
pub record PutsSource {Disk : Type 0} (told : Disk → Telling) (name text : Text) (store next : Store) (disk after : Disk) : Type 0 where
  pub put : next.sources.texts ≡ insert store.sources.texts name text
  pub edits : EditsSource told name store next disk after

-- ---- conditions

-- The store can be changed, and after a count that a text may have stands no longer text.
pub record MayPutCounted (store : Store) (size count : ℕ) (text : Text) : Type 0 where
  pub ready : StoreIsOpen store size
  pub counted : count ≤ body_limit → length text ≤ body_limit

-- ---- faults

-- Memory was wanting, and all is as it was.
pub record EditIsOutOfMemory {Disk : Type 0} (store next : Store) (disk after : Disk) (given : JournalFault) : Type 0 where
  pub is : given ≡ fault.Memory
  pub same : IsSame store next disk after

-- Such a text was to be put.
pub record FailsToPut {Disk : Type 0} (told : Disk → Telling) (IsIt : Text → Type 0) (name : Text) (store next : Store) (disk after : Disk) (given : JournalFault) : Type 0 where
  pub text : Text
  pub is : IsIt text
  pub failed : HasFailed told (puts name text) store next disk after given

-- Nothing was done, or such a text was to be put.
abbrev pub HasFailedToPut : {Disk : Type 0} → (Disk → Telling) → (Text → Type 0) → Text → Store → Store → Disk → Disk → JournalFault → Type 0
HasFailedToPut told IsIt name store next disk after given = EditIsOutOfMemory store next disk after given ⊎ FailsToPut told IsIt name store next disk after given

-- ---- the texts that an edit puts, which are never too long

-- the bytes after a `put`, where so many are a text
abbrev pub IsPutText : ℕ → Text → Text → Type 0
IsPutText count text given = (count ≤ body_limit) × (given ≡ text)

-- the text of a file
abbrev pub IsTakenText : Option Text → Text → Type 0
IsTakenText file given = (length given ≤ body_limit) × (file ≡ Some given)

-- the text of a file that the tree may give
abbrev pub MayBeTaken : Option Files → Text → Text → Type 0
MayBeTaken files name given = (length given ≤ body_limit) × IsGiven files name (Some given)
