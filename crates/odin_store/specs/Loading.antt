-- The loading of records, for the graph of a text.
use Rattle.std.specs.Prelude.{◌≡◌, ◌≢◌, ◌⊎◌, ⊤, ℕ, ◌+◌, Bool, true, false, List, [], ◌∷◌, ◌++◌, length, Option, Some, None, IsSome, slice_get}
use Rattle.std.specs.FinMap as map
use Rattle.std.specs.List.{All}
use Rattle.odin_journal.specs.declared.fault.JournalFault.{JournalFault}
use Rattle.odin_journal.specs.declared.fault.JournalFault.TheVariants as fault
use Rattle.object_values.specs.declared.facts.Fact.{Fact}
use Rattle.object_values.specs.declared.records.NodeRecord.{NodeRecord}
use Rattle.object_values.specs.Texts.{Text}
use Rattle.object_values.specs.declared.items.Item.{Item}
use Rattle.meaning_graph.specs.Graphs.{Graph}
use Rattle.meaning_records.specs.Forms.{ParsesAt}
use Rattle.meaning_records.specs.Records.{item}
use Rattle.meaning_records.specs.Stands.{gate_behind}
use Rattle.meaning_records.specs.States.{State, nothing, TakesOne, Reads, ReadsAll}
use Rattle.validator.specs.Fitting.{FactFits}
use Rattle.kept_tables.specs.declared.loaded.Loaded.{Loaded}
use Rattle.kept_tables.specs.declared.loaded.Loaded.TheVariants as given
use Rattle.odin_store.specs.declared.loading.Ground.{Ground}
use Rattle.odin_store.specs.declared.loading.Ground.TheVariants as ground_is
use Rattle.odin_store.specs.declared.loading.Loading.{Loading}
use Rattle.odin_store.specs.Fitting.{NodesFit, OthersFit}
use Rattle.odin_store.specs.Held.{counts}
use Rattle.odin_store.specs.Offsets.{gates_with, AreGates, FirstUnfit, Stops}
use Rattle.odin_store.specs.Stamps.{AreUnchecked}

-- ---- what was loaded so far

-- What was read and isn't held: the text of the last graph, all that was noted since, and the gates of that.
pub record Past : Type 0 where
  pub last : Option Text
  pub noted : List Fact
  pub gates : List ℕ

-- nothing
abbrev pub no_past : Past
no_past = record { last = None; noted = []; gates = [] }

abbrev pub state_of : Loading → Past → State
state_of loading past = record { tables = loading.kept.tables; sources = loading.sources.texts; graph = past.last; noted = past.noted }

-- the gate of the first record that doesn't fit, if there is one
abbrev pub IsUnfit : Graph → Past → Option ℕ → Type 0
IsUnfit g past None = All (FactFits g) past.noted
IsUnfit g past (Some at) = FirstUnfit g past.noted past.gates at

-- the last graph, as far as it tells what counts
abbrev pub IsGround : Graph → Text → Past → Ground → Type 0
IsGround g text past ground_is.Nothing = past.last ≡ None
IsGround g text past ground_is.Other = IsSome past.last × (counts text past.last ≡ false)
IsGround g text past (ground_is.This unfit) = (counts text past.last ≡ true) × IsUnfit g past unfit

-- This was read and isn't held.
pub record IsPast (loading : Loading) (past : Past) : Type 0 where
  pub many : length past.gates ≡ length past.noted
  pub ground : IsGround loading.graph.now loading.text.now past loading.ground

-- for the same graph
pub record IsForSame (old new : Loading) : Type 0 where
  pub graph : new.graph.now ≡ old.graph.now
  pub text : new.text.now ≡ old.text.now

-- whether the last graph is that of the text
abbrev pub TellsGraph : Text → Option Text → Bool → Type 0
TellsGraph text last true = last ≡ Some text
TellsGraph text last false = last ≢ Some text

-- so it is told of what was loaded
abbrev pub TellsLast : Loading → Bool → Type 0
TellsLast loading has = (past : Past) → IsPast loading past → TellsGraph loading.text.now past.last has

-- the gate of the first record that counts and doesn't fit, if there is one
abbrev pub TellsUnfit : Loading → Option ℕ → Past → Type 0
TellsUnfit loading None past = counts loading.text.now past.last ≡ true → All (FactFits loading.graph.now) past.noted
TellsUnfit loading (Some at) past = (counts loading.text.now past.last ≡ true) × FirstUnfit loading.graph.now past.noted past.gates at

-- once a graph of this text was read
abbrev pub after_graph : Text → Past
after_graph text = record { last = Some text; noted = []; gates = [] }

-- once a fact was noted in the payload of this gate
abbrev pub with_noted : ℕ → Fact → Past → Past
with_noted gate fact past = record { last = past.last; noted = past.noted ++ fact ∷ []; gates = past.gates ++ gate ∷ [] }

-- ---- what an item brings

-- there is a graph, and the fact is noted after it
abbrev pub NotesFact : Fact → Loading → Loading → Type 0
NotesFact fact old new = (past : Past) → IsPast old past → IsSome past.last × IsPast new (with_noted old.gate fact past)

-- so is the one of these facts that stands at a place
abbrev pub NotesAt : ℕ → List Fact → Loading → Loading → Type 0
NotesAt place facts old new = (fact : Fact) → slice_get facts place ≡ Some fact → NotesFact fact old new

-- what an item brings is taken in
abbrev pub TakesIn : Loaded → Loading → Loading → Type 0
TakesIn (given.Graph text) old new = (new.sources.texts ≡ old.sources.texts) × IsPast new (after_graph text)
TakesIn given.Content old new = (new.sources.texts ≡ old.sources.texts) × (new.ground ≡ old.ground)
TakesIn (given.Put name text) old new = (new.sources.texts ≡ map.insert old.sources.texts name text) × (new.ground ≡ old.ground)
TakesIn (given.Dropped name) old new =
    IsSome (map.get old.sources.texts name) × (new.sources.texts ≡ map.remove old.sources.texts name) × (new.ground ≡ old.ground)
TakesIn given.CallKept old new = (new.sources.texts ≡ old.sources.texts) × (new.ground ≡ old.ground)
TakesIn (given.Noted place) old new = (new.sources.texts ≡ old.sources.texts) × NotesAt place old.kept.tables.records old new

-- or it may not come: a source that isn't there is dropped, or a fact is noted before any graph
abbrev pub Refuses : Loaded → Loading → Type 0
Refuses (given.Dropped name) old = map.get old.sources.texts name ≡ None
Refuses (given.Noted place) old = old.ground ≡ ground_is.Nothing
Refuses other old = ⊥

-- ---- what is in memory

-- As far as all that counts fits, so does the node of each record.
abbrev pub HeldFit : Loading → Type 0
HeldFit loading = loading.ground ≡ ground_is.This None → NodesFit loading.graph.now loading.kept.records.records

-- before a record at a place is tested, the nodes of the others do
pub record MayNote (place : ℕ) (loading : Loading) : Type 0 where
  pub noted : NodeRecord
  pub stands : slice_get loading.kept.records.records place ≡ Some noted
  pub others : loading.ground ≡ ground_is.This None → OthersFit loading.graph.now loading.kept.records.records noted.node

-- what the record at a place says fits, and then the nodes of all records do
pub record FitsAt (place : ℕ) (loading : Loading) : Type 0 where
  pub fits : (fact : Fact) → slice_get loading.kept.tables.records place ≡ Some fact → FactFits loading.graph.now fact
  pub nodes : NodesFit loading.graph.now loading.kept.records.records

-- it doesn't fit
abbrev pub UnfitAt : ℕ → Loading → Type 0
UnfitAt place loading = (fact : Fact) → slice_get loading.kept.tables.records place ≡ Some fact → ¬ FactFits loading.graph.now fact

-- before what an item brings is taken in, where the tables have taken the item in
abbrev pub MayTakeIn : Loaded → Loading → Type 0
MayTakeIn (given.Graph text) loading = loading.kept.records.records ≡ []
MayTakeIn (given.Noted place) loading = MayNote place loading
MayTakeIn other loading = HeldFit loading

-- where none of the records counts as checked, none does after
abbrev pub StaysUnchecked : Loading → Loading → Type 0
StaysUnchecked old new = AreUnchecked old.kept.records.records → AreUnchecked new.kept.records.records

-- ---- items

-- This is read of what was, once an item stands in the payload.
pub record ReadsOn (it : Item) (old new : Loading) (past : Past) : Type 0 where
  pub next : Past
  pub takes : TakesOne (state_of old past) it (state_of new next)
  pub is : IsPast new next
  pub gates : next.gates ≡ gates_with old.gate it past.gates

-- an item stands at a place of a payload, and may come after what was loaded
pub record TakesItem (payload : List ℕ) (at end : ℕ) (old new : Loading) : Type 0 where
  pub it : Item
  pub stands : ParsesAt item payload at end it
  pub takes : (past : Past) → IsPast old past → ReadsOn it old new past

-- no item stands there that may come after what is kept
abbrev pub TakesNone : List ℕ → ℕ → State → Type 0
TakesNone payload at old = (it : Item) (end : ℕ) (new : State) → ParsesAt item payload at end it → ¬ TakesOne old it new

-- after what was loaded
abbrev pub TakesNoItem : List ℕ → ℕ → Loading → Type 0
TakesNoItem payload at old = (past : Past) → IsPast old past → TakesNone payload at (state_of old past)

-- ---- payloads

-- This is read of what was, once the payload is.
pub record LoadsOn (payload : List ℕ) (old new : Loading) (past : Past) : Type 0 where
  pub next : Past
  pub reads : Reads (state_of old past) payload (state_of new next)
  pub is : IsPast new next
  pub gates : AreGates old.gate (payload ∷ []) past.gates next.gates

-- the payload reads after what was loaded
abbrev pub Loads : List ℕ → Loading → Loading → Type 0
Loads payload old new = (past : Past) → IsPast old past → LoadsOn payload old new past

-- the payload doesn't read after what is kept
abbrev pub ReadsNot : State → List ℕ → Type 0
ReadsNot old payload = (new : State) → ¬ Reads old payload new

abbrev pub LoadsNot : List ℕ → Loading → Type 0
LoadsNot payload old = (past : Past) → IsPast old past → ReadsNot (state_of old past) payload

-- ---- records

-- how many bytes records of these payloads take, each with its gate and its length
abbrev pub records_size : List (List ℕ) → ℕ
records_size [] = 0
records_size (payload ∷ payloads) = 5 + length payload + records_size payloads

-- The records were loaded, and what counts fits. None counts as checked.
pub record HasRead (g : Graph) (text : Text) (records : List (List ℕ)) (loading : Loading) : Type 0 where
  pub graph_is : loading.graph.now ≡ g
  pub text_is : loading.text.now ≡ text
  pub past : Past
  pub read : ReadsAll nothing records (state_of loading past)
  pub is : IsPast loading past
  pub fit : counts text past.last ≡ true → All (FactFits g) past.noted
  pub unchecked : AreUnchecked loading.kept.records.records

-- The first of these records, whose first gate is this, that doesn't read, and its gate. What counts before it fits.
pub record RecordBreaksAt (g : Graph) (text : Text) (records : List (List ℕ)) (start at : ℕ) : Type 0 where
  pub before : List (List ℕ)
  pub payload : List ℕ
  pub rest : List (List ℕ)
  pub whole : records ≡ before ++ payload ∷ rest
  pub state : State
  pub read : ReadsAll nothing before state
  pub unread : ReadsNot state payload
  pub fit : counts text state.graph ≡ true → All (FactFits g) state.noted
  pub place : at ≡ gate_behind start before

-- The gate of the first that has what counts and doesn't fit, as far as they read.
pub record RecordUnfitAt (g : Graph) (text : Text) (records : List (List ℕ)) (start at : ℕ) : Type 0 where
  pub before : List (List ℕ)
  pub rest : List (List ℕ)
  pub whole : records ≡ before ++ rest
  pub state : State
  pub read : ReadsAll nothing before state
  pub stops : Stops state rest
  pub counted : counts text state.graph ≡ true
  pub gates : List ℕ
  pub are : AreGates start before [] gates
  pub first : FirstUnfit g state.noted gates at

-- a fault of the loading of records
abbrev pub IsRecordLoadFault : Graph → Text → List (List ℕ) → ℕ → JournalFault → Type 0
IsRecordLoadFault g text records start (fault.NotOurs at) = RecordBreaksAt g text records start at ⊎ RecordUnfitAt g text records start at
IsRecordLoadFault g text records start fault.Memory = ⊤
IsRecordLoadFault g text records start other = ⊥
