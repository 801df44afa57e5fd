-- The opening of a store.
use Rattle.std.specs.Prelude.{◌≡◌, ◌≢◌, ◌⊎◌, ⊤, ℕ, ◌+◌, ◌*◌, ◌≤◌, ◌<◌, List, [], ◌∷◌, ◌++◌, length, Option, Some}
use Rattle.odin_outside.specs.Disk.{Telling, IsQuiet, LeavesOnly}
use Rattle.object_values.specs.Texts.{Text}
use Rattle.meaning_texts.specs.Limits.{graph_limit}
use Rattle.meaning_graph.specs.Graphs.{Graph}
use Rattle.meaning_graph.specs.Grammar.{GraphText}
use Rattle.meaning_records.specs.Front.{file_limit, front_size, new_store}
use Rattle.meaning_records.specs.Images.{gate_after, IsNew, Stored, IsStore}
use Rattle.odin_journal.specs.Moments.{Untouched, Works}
use Rattle.odin_journal.specs.Rest.{AtRest}
use Rattle.odin_journal.specs.declared.fault.JournalFault.{JournalFault}
use Rattle.odin_journal.specs.declared.fault.JournalFault.TheVariants as fault
use Rattle.meaning_records.specs.Batches.{graph_batch}
use Rattle.meaning_records.specs.States.{State, nothing, ReadsAll, spell_batch}
use Rattle.meaning_records.specs.Stands.{Stands, gate_behind}
use Rattle.odin_store.specs.declared.store.Store.{Store}
use Rattle.odin_store.specs.Written.{written_in, with_records, StoreIsMade}
use Rattle.odin_store.specs.Held.{held_of, NotedFit, StandsFor}
use Rattle.odin_store.specs.Offsets.{IsNotFor}
use Rattle.odin_store.specs.OnDisk.{IsOn, held_in}
use Rattle.odin_store.specs.Stamps.{AreUnchecked}

-- A store may be opened for a graph with its text, which isn't too long.
pub record MayOpenStore (graph : Graph) (text : Text) : Type 0 where
  pub spelled : GraphText text graph
  pub short : length text ≤ graph_limit

-- the bytes of the batch of a graph
abbrev pub graph_record : Text → List ℕ
graph_record text = spell_batch (graph_batch text)

-- The batch of an opening: that of the graph, where the last graph of the file was another or there was none.
abbrev pub IsOpening : Text → Option Text → List (List ℕ) → Type 0
IsOpening text last batches = ((last ≡ Some text) × (batches ≡ [])) ⊎ ((last ≢ Some text) × (batches ≡ graph_record text ∷ []))

-- The file stood for what the store holds. After its records the batch of the opening was added, and nothing else was written but the front
-- of a new file. The work is that of reading them, of making it, and of that batch at most.
pub record OpensStore (graph : Text) (old new : Telling) (store : Store) : Type 0 where
  pub records : List (List ℕ)
  pub state : State
  pub stored : Stored records old.seen
  pub read : ReadsAll nothing records state
  pub fit : NotedFit graph state
  pub holds : held_in store ≡ held_of graph state
  pub opening : List (List ℕ)
  pub opens : IsOpening graph state.graph opening
  pub on : IsOn new store (records ++ opening) (Some graph)
  pub made : List ℕ
  pub is_made : StoreIsMade old.seen made
  pub gate : ℕ
  pub whole : IsStore made records gate
  pub end : store.journal.end ≡ gate_behind gate opening
  pub bytes : new.seen ≡ with_records gate opening made
  pub works : Works (66 + written_in opening) (16 + 2 * length records + 4 * length opening) old new

-- of a disk on which nothing is pending
abbrev pub OpensQuietStore : Text → Telling → Telling → Store → Type 0
OpensQuietStore graph old new store = IsQuiet old → OpensStore graph old new store

-- no edit was counted yet
abbrev pub IsAtFirst : Store → Type 0
IsAtFirst store = store.epoch ≡ 0

-- An opened store keeps the text of its graph, and no edit was counted yet. Nothing that it has of nodes counts as checked.
pub record IsOpened (graph : Text) (store : Store) : Type 0 where
  pub graph_is : store.graph ≡ graph
  pub first : IsAtFirst store
  pub unchecked : AreUnchecked store.kept.records.records

-- the store has no record but that of its graph, if that
abbrev pub EndsFirst : Text → Store → Type 0
EndsFirst graph store = store.journal.end ≤ gate_after front_size (graph_record graph)

-- an opened store of a file of this size
pub record IsAtStart (graph : Text) (size : ℕ) (store : Store) : Type 0 where
  pub opened : IsOpened graph store
  pub empty : size ≡ 0 → EndsFirst graph store

-- the records read, and their last graph is another, if they have one
abbrev pub HaveOther : Text → List (List ℕ) → Type 0
HaveOther graph records = (state : State) × ReadsAll nothing records state × (state.graph ≢ Some graph)

-- The image has the records that the file had, or, where the batch of the opening was due, these and that.
abbrev pub HasOpening : Text → List (List ℕ) → List ℕ → Type 0
HasOpening graph records image = Stored records image ⊎ (HaveOther graph records × Stored (records ++ graph_record graph ∷ []) image)

-- a crash at any moment leaves such an image
abbrev pub LeavesOpening : Text → Telling → Telling → Type 0
LeavesOpening graph old new = (records : List (List ℕ)) → IsQuiet old → Stored records old.seen → LeavesOnly old new (HasOpening graph records)

-- a crash at any moment leaves what the file stood for, for this graph
abbrev pub LeavesHeld : Text → Telling → Telling → Type 0
LeavesHeld graph old new = (state : State) → IsQuiet old → Stands old.seen state → NotedFit graph state → LeavesOnly old new (StandsFor (held_of graph state))

-- so it does where it leaves no other records
abbrev pub OpeningsKeepHeld : {Disk : Type 0} → (Disk → Telling) → Type 0
OpeningsKeepHeld {Disk} told =
    (graph : Text) (old new : Disk) → length graph ≤ graph_limit → LeavesOpening graph (told old) (told new) → LeavesHeld graph (told old) (told new)

-- The file is a store whose last graph is another, if it has one, and whose next batch, that of this graph, doesn't fit after its end.
pub record HasNoRoomForGraph (graph : Text) (image : Telling) (end count : ℕ) : Type 0 where
  pub records : List (List ℕ)
  pub rests : AtRest image records end
  pub state : State
  pub read : ReadsAll nothing records state
  pub other : state.graph ≢ Some graph
  pub count_is : count ≡ length (graph_record graph)
  pub over : file_limit < end + 6 + count

-- a file that counted as new was made a store, and no record was added
pub record IsMadeNew (old new : Telling) : Type 0 where
  pub is_new : IsNew old.seen
  pub quiet : IsQuiet new
  pub bytes : new.seen ≡ new_store old.seen

-- A fault of an opening. `NotOurs` is exact: what stands for something has no such offset, and no file has two. Where memory was wanting
-- no batch was begun; where the disk failed that of the opening may have been, and what a crash leaves then is said for any answer.
abbrev pub IsStoreOpenFault : Text → Telling → Telling → JournalFault → Type 0
IsStoreOpenFault graph old new (fault.NotOurs at) = IsQuiet old → Untouched old new × IsNotFor graph old.seen at
IsStoreOpenFault graph old new (fault.Full end count) = IsQuiet old → Untouched old new × HasNoRoomForGraph graph old end count
IsStoreOpenFault graph old new fault.Memory = IsQuiet old → Untouched old new ⊎ IsMadeNew old new
IsStoreOpenFault graph old new fault.Disk = ⊤
