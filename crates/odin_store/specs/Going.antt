-- Changes of a store, one after another.
use Rattle.std.specs.Prelude.{◌≡◌, ℕ, List, [], ◌∷◌, ◌++◌, Option}
use Rattle.odin_outside.specs.Disk.{Telling}
use Rattle.object_values.specs.declared.views.Value.{Value}
use Rattle.object_values.specs.declared.calls.Call.{Call}
use Rattle.object_values.specs.declared.calls.Outcome.{Outcome}
use Rattle.object_values.specs.declared.facts.Fact.{Fact}
use Rattle.object_values.specs.declared.facts.Fresh.{Fresh}
use Rattle.object_values.specs.Texts.{Text}
use Rattle.odin_journal.specs.Trails as trails
use Rattle.object_values.specs.declared.items.Item.{Item}
use Rattle.meaning_records.specs.Batches.{drop_batch, IsPutBatch, IsCallBatch, IsNotesBatch, facts_of}
use Rattle.meaning_records.specs.Stands.{gate_behind}
use Rattle.meaning_records.specs.States.{State, Reads, spell_batch}
use Rattle.odin_store.specs.declared.store.Store.{Store}
use Rattle.odin_store.specs.Written.{WorksFor, with_records, record_keeping}
use Rattle.odin_store.specs.Held.{Change, puts, drops, keeps, notes}
use Rattle.odin_store.specs.OnDisk.{held_in, state_in, IsOn, IsSame, LeavesChange, BeginsOnce}
use Rattle.odin_store.specs.Changes.{PutBatch, DropBatch, Edits, KeepsCall, NotesNodes}
use Rattle.odin_store.specs.Keeping.{store_keeping}

-- the batch of a change, after these contents
abbrev pub IsBatchOf : List Value → Change → List Item → Type 0
IsBatchOf contents (puts name text) items = IsPutBatch contents name text items
IsBatchOf contents (drops name) items = items ≡ drop_batch name
IsBatchOf contents (keeps call outcome) items = IsCallBatch contents call outcome items
IsBatchOf contents (notes facts) items = (fresh : List Fresh) × (facts ≡ facts_of fresh) × IsNotesBatch contents fresh items

-- One batch for each change, in their order, and no others: each is of its change after what was read before it, and reads there.
pub data AreBatches (old : State) : List Change → List (List ℕ) → State → Type 0 where
  no_batches : AreBatches old [] [] old
  one_batch : (changes : List Change) (payloads : List (List ℕ)) (mid : State) (change : Change) (items : List Item) (new : State)
      → AreBatches old changes payloads mid → IsBatchOf mid.tables.contents change items → Reads mid (spell_batch items) new
      → AreBatches old (changes ++ change ∷ []) (payloads ++ spell_batch items ∷ []) new

-- The disk has these records and after them the batches of these changes, and no others, where all this was noted before; a crash on the way
-- leaves some first ones of them.
-- Nothing else was written, and no more work done.
pub record HasBatches {Disk : Type 0} (told : Disk → Telling) (changes : List Change) (store next : Store) (disk after : Disk) (records : List (List ℕ)) (graph : Option Text) (noted : List Fact) : Type 0 where
  pub payloads : List (List ℕ)
  pub on : IsOn (told after) next (records ++ payloads) graph
  pub are : AreBatches (state_in store graph noted) changes payloads (state_in next graph on.noted)
  pub end : next.journal.end ≡ gate_behind store.journal.end payloads
  pub bytes : (told after).seen ≡ with_records store.journal.end payloads (told disk).seen
  pub grows : trails.ExtendsTrail record_keeping told payloads disk store after next
  pub works : WorksFor payloads (told disk) (told after)

-- These changes were made, one after another, and nothing else.
pub record Performs {Disk : Type 0} (told : Disk → Telling) (changes : List Change) (store next : Store) (disk after : Disk) : Type 0 where
  pub holds : held_in next ≡ trails.after_changes store_keeping changes (held_in store)
  pub grows : trails.ExtendsTrail store_keeping told changes disk store after next
  pub batches : (records : List (List ℕ)) (graph : Option Text) → (on : IsOn (told disk) store records graph) → HasBatches told changes store next disk after records graph on.noted

-- The batch that was begun after these contents: that of the first of these changes, or none.
pub data IsPartialBatch (contents : List Value) : List Change → List (List ℕ) → Type 0 where
  none_begun : (changes : List Change) → IsPartialBatch contents changes []
  one_begun : (change : Change) (more : List Change) (items : List Item) → IsBatchOf contents change items → IsPartialBatch contents (change ∷ more) (spell_batch items ∷ [])

-- After whatever came before, a crash leaves that and some first ones of these payloads and of what was begun after them; and one that comes
-- now leaves all but what was begun.
abbrev pub LeavesBegun : {Disk : Type 0} → (Disk → Telling) → List (List ℕ) → List (List ℕ) → Store → Disk → Disk → Type 0
LeavesBegun {Disk} told payloads begun store disk after =
    (first : List (List ℕ)) (start : Disk) (before : List (List ℕ)) → trails.Trail record_keeping first (told start) before store (told disk)
    → trails.LeavesPrefix record_keeping first (told start) (before ++ payloads) (before ++ (payloads ++ begun)) (told after)

-- Some first ones of these changes have their batches, and one more was begun at most. The work is no more than for them, and a crash
-- leaves no others.
pub record HasPartialBatches {Disk : Type 0} (told : Disk → Telling) (changes : List Change) (store : Store) (disk after : Disk) (graph : Option Text) (noted : List Fact) : Type 0 where
  pub made : List Change
  pub rest : List Change
  pub whole : changes ≡ made ++ rest
  pub payloads : List (List ℕ)
  pub last : State
  pub are : AreBatches (state_in store graph noted) made payloads last
  pub begun : List (List ℕ)
  pub next : IsPartialBatch last.tables.contents rest begun
  pub leaves : LeavesBegun told payloads begun store disk after
  pub works : WorksFor (payloads ++ begun) (told disk) (told after)

-- Of these changes some first ones were made, and none that came before is lost.
pub record StopsPerforming {Disk : Type 0} (told : Disk → Telling) (changes : List Change) (store : Store) (disk after : Disk) : Type 0 where
  pub within : trails.StopsWithin store_keeping told changes disk store after
  pub begun : (records : List (List ℕ)) (graph : Option Text) → (on : IsOn (told disk) store records graph) → HasPartialBatches told changes store disk after graph on.noted

-- ---- what the calls do, as changes one after another

module _ {Disk : Type 0} (told : Disk → Telling) where
  -- The clauses of the calls make these changes; none where all is as it was; and changes follow changes.
  pub record ChangesFollow : Type 0 where
    pub none : (store next : Store) (disk after : Disk) → IsSame store next disk after → Performs told [] store next disk after
    pub put : (name text : Text) (store next : Store) (disk after : Disk) → Edits (PutBatch store name text) (puts name text) store next (told disk) (told after)
        → LeavesChange (puts name text) store (told disk) (told after) → Performs told (puts name text ∷ []) store next disk after
    pub drop : (name : Text) (store next : Store) (disk after : Disk) → Edits (DropBatch name) (drops name) store next (told disk) (told after)
        → LeavesChange (drops name) store (told disk) (told after) → Performs told (drops name ∷ []) store next disk after
    pub keep : (call : Call) (outcome : Outcome) (store next : Store) (disk after : Disk) → KeepsCall call outcome store next (told disk) (told after)
        → LeavesChange (keeps call outcome) store (told disk) (told after) → Performs told (keeps call outcome ∷ []) store next disk after
    pub note : (fresh : List Fresh) (store next : Store) (disk after : Disk) → NotesNodes fresh store next (told disk) (told after)
        → LeavesChange (notes (facts_of fresh)) store (told disk) (told after) → Performs told (notes (facts_of fresh) ∷ []) store next disk after
    pub behind : (some more : List Change) (store mid next : Store) (disk between after : Disk)
        → Performs told some store mid disk between → Performs told more mid next between after → Performs told (some ++ more) store next disk after

  -- Where changes stop: within one that failed, after others, or at any moment; and more of them may have been meant.
  pub record ChangesStop : Type 0 where
    pub failed : (change : Change) (store : Store) (disk after : Disk) → LeavesChange change store (told disk) (told after)
        → BeginsOnce (IsBatchOf store.kept.tables.contents change) store (told disk) (told after) → StopsPerforming told (change ∷ []) store disk after
    pub behind : (some more : List Change) (store mid : Store) (disk between after : Disk)
        → Performs told some store mid disk between → StopsPerforming told more mid between after → StopsPerforming told (some ++ more) store disk after
    pub left : (changes : List Change) (store next : Store) (disk after : Disk) → Performs told changes store next disk after → StopsPerforming told changes store disk after
    pub longer : (changes more : List Change) (store : Store) (disk after : Disk) → StopsPerforming told changes store disk after → StopsPerforming told (changes ++ more) store disk after
