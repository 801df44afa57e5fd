-- What the laws of kept records say.
use Rattle.std.specs.Prelude.{◌≡◌, ◌⊎◌, ℕ, ◌≤◌, List, [], ◌∷◌, ◌++◌, All, length, map as map_each, Option, Some, IsSome, IsNone}
use Rattle.std.specs.FinMap as map
use Rattle.object_values.specs.declared.facts.Fact.{Fact}
use Rattle.object_values.specs.declared.facts.Fresh.{Fresh}
use Rattle.object_values.specs.declared.views.Value.{Value}
use Rattle.object_values.specs.declared.calls.Call.{Call}
use Rattle.object_values.specs.declared.calls.Outcome.{Outcome}
use Rattle.object_values.specs.Texts.{Text, Texts}
use Rattle.meaning_texts.specs.Classes.{IsName}
use Rattle.meaning_texts.specs.Limits.{body_limit}
use Rattle.meaning_texts.specs.Lists.{IsIn}
use Rattle.meaning_calls.specs.Jobs.{IsWellFormed}
use Rattle.meaning_calls.specs.Outcomes.{OutcomeFits}
use Rattle.object_values.specs.declared.items.StoredRecord.{StoredRecord}
use Rattle.object_values.specs.declared.items.Item.{Item}
use Rattle.meaning_records.specs.Images.{AreRecords}
use Rattle.meaning_records.specs.Forms.{IsOfOneThing}
use Rattle.meaning_records.specs.Records.{message, dep, node_record, item}
use Rattle.meaning_records.specs.Tables.{Calls, IsFactOf, kept_outcome, put_facts}
use Rattle.meaning_records.specs.Batches.{graph_batch, IsPutBatch, drop_batch, IsCallBatch, facts_of, AreReachedLast, reached_count, IsNotable, IsNotesBatch}
use Rattle.meaning_records.specs.States.{State, nothing, spell_batch, TakesAll, Reads, ReadsAll}
use Rattle.meaning_records.specs.Live.{AreLive, IsLiveText, Live, MayLive, live_state}
use Rattle.meaning_records.specs.Stands.{Stands, StandsNot, gate_behind}

-- What an item is spelled tells the item, and where it ends.
abbrev pub ItemsAreOne : Type 0
ItemsAreOne = IsOfOneThing item

-- What the record of a node and its parts are spelled tells them, and where they end.
pub record NodeRecordsAreOne : Type 0 where
  pub message : IsOfOneThing message
  pub dep : IsOfOneThing dep
  pub node_record : IsOfOneThing node_record

-- A payload reads in one way at most after what is kept.
abbrev pub ReadsInOneWay : Type 0
ReadsInOneWay = (old : State) (payload : List ℕ) (new other : State) → Reads old payload new → Reads old payload other → other ≡ new

-- The reached sources of what a record says stand last, and are as many as it tells.
pub record ReachedStandLast : Type 0 where
  pub last : (contents : List Value) (stored : StoredRecord) (fact : Fact) → IsFactOf contents stored fact → AreReachedLast fact.deps
  pub count : (contents : List Value) (stored : StoredRecord) (fact : Fact) → IsFactOf contents stored fact → stored.reached ≤ length stored.deps
      → reached_count fact.deps ≡ stored.reached

-- An image stands for one thing at most. Where it stands for one it has no offset at which it doesn't, and it has one such offset at most.
pub record StandsForOne : Type 0 where
  pub one : (image : List ℕ) (state other : State) → Stands image state → Stands image other → other ≡ state
  pub none : (image : List ℕ) (at : ℕ) (state : State) → StandsNot image at → ¬ Stands image state
  pub place : (image : List ℕ) (at other : ℕ) → StandsNot image at → StandsNot image other → other ≡ at

-- Each image stands for something, or has such an offset.
abbrev pub EachStandsOrNot : Type 0
EachStandsOrNot = (image : List ℕ) → ((state : State) × Stands image state) ⊎ ((at : ℕ) × StandsNot image at)

-- the gates of records that follow each other
abbrev pub GatesFollow : Type 0
GatesFollow = (image : List ℕ) (gate end : ℕ) (records : List (List ℕ)) → AreRecords image gate records end → end ≡ gate_behind gate records

-- ---- what a store writes

-- what is noted of nodes: the last of each, and all
pub record Noted : Type 0 where
  pub records : List Fact
  pub all : List Fact

abbrev pub noted_in : State → Noted
noted_in state = record { records = state.tables.records; all = state.noted }

abbrev pub none_noted : Noted
none_noted = record { records = []; all = [] }

-- and once these facts are noted, one after another
abbrev pub with_facts : Noted → List Fact → Noted
with_facts old facts = record { records = put_facts facts old.records; all = old.all ++ facts }

-- These items read after what is kept. Nothing is lost of the contents, and these calls, sources and graph are kept then, and this is noted.
pub record ItemsReadAs (old : State) (items : List Item) (calls : Calls) (sources : Texts) (graph : Option Text) (noted : Noted) : Type 0 where
  pub new : State
  pub taken : TakesAll old items new
  pub more : List Value
  pub contents_are : new.tables.contents ≡ old.tables.contents ++ more
  pub calls_are : new.tables.calls ≡ calls
  pub sources_are : new.sources ≡ sources
  pub graph_is : new.graph ≡ graph
  pub noted_is : noted_in new ≡ noted

-- Each batch that a store writes reads as what it was asked for.
pub record BatchesRead : Type 0 where
  pub graph : (old : State) (text : Text) → ItemsReadAs old (graph_batch text) old.tables.calls old.sources (Some text) none_noted
  pub put : (old : State) (name text : Text) (items : List Item) → IsName name → length text ≤ body_limit
      → IsPutBatch old.tables.contents name text items
      → ItemsReadAs old items old.tables.calls (map.insert old.sources name text) old.graph (noted_in old)
  pub drop : (old : State) (name : Text) → IsName name → IsSome (map.get old.sources name)
      → ItemsReadAs old (drop_batch name) old.tables.calls (map.remove old.sources name) old.graph (noted_in old)
  pub call : (old : State) (call : Call) (outcome : Outcome) (items : List Item) → IsWellFormed call → OutcomeFits call outcome
      → IsNone (kept_outcome old.tables.calls call) → IsCallBatch old.tables.contents call outcome items
      → ItemsReadAs old items (old.tables.calls ++ (call, outcome) ∷ []) old.sources old.graph (noted_in old)
  pub notes : (old : State) (fresh : List Fresh) (items : List Item) → IsSome old.graph → All IsNotable fresh → IsNotesBatch old.tables.contents fresh items
      → ItemsReadAs old items old.tables.calls old.sources old.graph (with_facts (noted_in old) (facts_of fresh))

-- ---- a store that is written anew

-- Live batches read as what they are of, where each of their items has a spelling and a store can hold it.
abbrev pub LiveBatchesRead : Type 0
LiveBatchesRead = (live : Live) (batches : List (List Item)) (contents : List Value) → MayLive live → All (All item.fits) batches
    → AreLive live batches contents → ReadsAll nothing (map_each spell_batch batches) (live_state live contents)

-- The live batch text has one length.
abbrev pub LiveTextIsOne : Type 0
LiveTextIsOne = (live : Live) (size other : ℕ) → IsLiveText live size → IsLiveText live other → other ≡ size

-- What stands of a node was noted since the last graph.
abbrev pub LastWereNoted : Type 0
LastWereNoted = (payloads : List (List ℕ)) (state : State) → ReadsAll nothing payloads state
    → All (λ fact. IsIn fact state.noted) state.tables.records
