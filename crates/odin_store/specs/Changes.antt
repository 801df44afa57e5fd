-- What each call that changes a store does.
use Rattle.std.specs.Prelude.{◌≡◌, ◌≢◌, ◌↔◌, ℕ, ◌+◌, ◌≤◌, All, List, [], length, map as map_each, Some, IsSome, Bool, IsTrue, IsFalse}
use Rattle.std.specs.FinMap as map
use Rattle.odin_outside.specs.Disk.{Telling}
use Rattle.object_values.specs.declared.calls.Call.{Call}
use Rattle.object_values.specs.declared.calls.Outcome.{Outcome}
use Rattle.object_values.specs.declared.facts.Fresh.{Fresh}
use Rattle.object_values.specs.declared.records.NodeRecord.{NodeRecord}
use Rattle.object_values.specs.Texts.{Text}
use Rattle.meaning_texts.specs.Limits.{body_limit}
use Rattle.meaning_graph.specs.Graphs.{Graph}
use Rattle.meaning_graph.specs.Grammar.{GraphText}
use Rattle.object_values.specs.declared.items.Item.{Item}
use Rattle.meaning_records.specs.Batches.{drop_batch, IsPutBatch, IsCallBatch, IsNotesBatch, IsNotable, facts_of}
use Rattle.validator.specs.Fitting.{FactFits}
use Rattle.kept_records.specs.Records.{put_records}
use Rattle.kept_notes.specs.Facts as said
use Rattle.kept_tables.specs.Holdings as kept
use Rattle.odin_journal.specs.Rest.{IsReady}
use Rattle.odin_store.specs.declared.store.Store.{Store}
use Rattle.odin_store.specs.Held.{Change, puts, drops, keeps, notes, apply}
use Rattle.odin_store.specs.OnDisk.{held_in, StoreIsOpen, AddsBatch, IsSame, KeepsNodes}

-- ---- the batches

abbrev pub PutBatch : Store → Text → Text → List Item → Type 0
PutBatch store name text = IsPutBatch store.kept.tables.contents name text

abbrev pub DropBatch : Text → List Item → Type 0
DropBatch name items = items ≡ drop_batch name

abbrev pub CallBatch : Store → Call → Outcome → List Item → Type 0
CallBatch store call outcome = IsCallBatch store.kept.tables.contents call outcome

abbrev pub NotesBatch : Store → List Fresh → List Item → Type 0
NotesBatch store fresh items = IsNotesBatch store.kept.tables.contents fresh items

-- ---- edits

-- a text that may be put
pub record MayPut (store : Store) (size : ℕ) (text : Text) : Type 0 where
  pub ready : StoreIsOpen store size
  pub short : length text ≤ body_limit

-- A change of the sources: the batch is added, what is held changes so, and the epoch rises. What is in memory of nodes stays, so none of it counts as
-- checked at the new epoch.
pub record Edits (IsBatch : List Item → Type 0) (change : Change) (store next : Store) (old new : Telling) : Type 0 where
  pub holds : held_in next ≡ apply change (held_in store)
  pub epoch : next.epoch ≡ store.epoch + 1
  pub nodes : KeepsNodes store next
  pub adds : AddsBatch IsBatch store next old new

-- The sources change exactly where this is so; else nothing is written, and all is as it was.
pub record EditsWhere {D : Type 0} (told : D → Telling) (Changes : Type 0) (IsBatch : List Item → Type 0) (change : Change) (store next : Store) (disk after : D) (changed : Bool) : Type 0 where
  pub exact : IsTrue changed ↔ Changes
  pub edits : IsTrue changed → Edits IsBatch change store next (told disk) (told after)
  pub same : IsFalse changed → IsSame store next disk after

-- a put changes the sources where the source has another text, or isn't there
abbrev pub PutsText : {D : Type 0} → (D → Telling) → Text → Text → Store → Store → D → D → Bool → Type 0
PutsText told name text store = EditsWhere told (map.get store.sources.texts name ≢ Some text) (PutBatch store name text) (puts name text) store

-- a drop where it is there
abbrev pub DropsSource : {D : Type 0} → (D → Telling) → Text → Store → Store → D → D → Bool → Type 0
DropsSource told name store = EditsWhere told (IsSome (map.get store.sources.texts name)) (DropBatch name) (drops name) store

-- ---- calls

-- a call that may be kept
pub record StoreMayKeep (store : Store) (size : ℕ) (call : Call) (outcome : Outcome) : Type 0 where
  pub journal : IsReady store.journal size
  pub new : kept.MayKeep store.kept.tables call outcome

-- it is kept, and the sources with their epoch are as they were, and what is in memory of nodes
pub record KeepsCall (call : Call) (outcome : Outcome) (store next : Store) (old new : Telling) : Type 0 where
  pub holds : held_in next ≡ apply (keeps call outcome) (held_in store)
  pub epoch : next.epoch ≡ store.epoch
  pub nodes : KeepsNodes store next
  pub adds : AddsBatch (CallBatch store call outcome) store next old new

-- ---- records of nodes

-- what may be noted of nodes, by the graph of the store
pub record StoreMayNote (store : Store) (size : ℕ) (fresh : List Fresh) : Type 0 where
  pub journal : IsReady store.journal size
  pub notable : All IsNotable fresh
  pub graph : Graph
  pub spelled : GraphText store.graph graph
  pub fit : All (FactFits graph) (facts_of fresh)

-- In memory it is noted too, with what each node comes to at present, which counts as checked at this epoch.
pub record HasInMemory (epoch : ℕ) (fresh : List Fresh) (old new : kept.Holding) : Type 0 where
  pub noted : List NodeRecord
  pub records : new.records.records ≡ put_records noted old.records.records
  pub say : said.facts_of new.tables.contents noted ≡ facts_of fresh
  pub present : map_each (λ (r : NodeRecord). r.present) noted ≡ map_each (λ (f : Fresh). f.present) fresh
  pub checked : All (λ (r : NodeRecord). r.checked ≡ Some epoch) noted

-- it is noted by one batch, and the sources with their epoch are as they were
pub record NotesNodes (fresh : List Fresh) (store next : Store) (old new : Telling) : Type 0 where
  pub holds : held_in next ≡ apply (notes (facts_of fresh)) (held_in store)
  pub epoch : next.epoch ≡ store.epoch
  pub memory : HasInMemory store.epoch fresh store.kept next.kept
  pub adds : AddsBatch (NotesBatch store fresh) store next old new

-- where there is something; else all is as it was
pub record NotesWhereSome {D : Type 0} (told : D → Telling) (fresh : List Fresh) (store next : Store) (disk after : D) : Type 0 where
  pub some : fresh ≢ [] → NotesNodes fresh store next (told disk) (told after)
  pub none : fresh ≡ [] → IsSame store next disk after
