-- The batches of a store that is written anew: one for the graph, one for each source by the bytes of its name, one for each kept call in the order in which
-- they were kept, and one for each record of a node in the order in which the nodes were first noted. Each begins with the contents that it needs and that no
-- batch before it had.
use Rattle.std.specs.Prelude.{◌≡◌, ⊤, ℕ, ◌+◌, ◌≤◌, List, [], ◌∷◌, ◌++◌, length, Some, IsNone}
use Rattle.std.specs.List.{All, flat_map}
use Rattle.std.specs.FinMap as map
use Rattle.object_values.specs.declared.facts.Fresh.{Fresh}
use Rattle.object_values.specs.declared.views.Value.{Value}
use Rattle.object_values.specs.declared.calls.Call.{Call}
use Rattle.object_values.specs.declared.calls.Outcome.{Outcome}
use Rattle.object_values.specs.Texts.{Text, Texts}
use Rattle.meaning_texts.specs.Classes.{IsName}
use Rattle.meaning_texts.specs.Limits.{body_limit}
use Rattle.meaning_calls.specs.Jobs.{IsWellFormed}
use Rattle.meaning_calls.specs.Outcomes.{OutcomeFits}
use Rattle.object_values.specs.declared.items.Item.{Item}
use Rattle.object_values.specs.declared.items.Item.TheVariants.{Content}
use Rattle.meaning_records.specs.Tables.{Calls, kept_outcome, put_facts}
use Rattle.meaning_records.specs.Batches.{graph_batch, facts_of, IsPutBatch, IsCallBatch, IsNotable, IsNotesBatch}
use Rattle.meaning_records.specs.States.{State, spell_batch}

-- the content that an item is
abbrev pub content_in : Item → List Value
content_in (Content value) = value ∷ []
content_in other = []

-- the contents after a batch of these items
abbrev pub contents_after : List Value → List Item → List Value
contents_after contents items = contents ++ flat_map content_in items

-- One batch for each of these things, in order, where each is over the contents that stand then; and the contents after them.
abbrev pub AreBatchesOf : {T : Type 0} → (List Value → T → List Item → Type 0) → List Value → List T → List (List Item) → List Value → Type 0
AreBatchesOf IsBatch contents [] [] after = after ≡ contents
AreBatchesOf IsBatch contents [] (items ∷ batches) after = ⊥
AreBatchesOf IsBatch contents (thing ∷ things) [] after = ⊥
AreBatchesOf IsBatch contents (thing ∷ things) (items ∷ batches) after = IsBatch contents thing items × AreBatchesOf IsBatch (contents_after contents items) things batches after

-- a source gets its text
abbrev pub IsSourceBatch : List Value → Text × Text → List Item → Type 0
IsSourceBatch contents source = IsPutBatch contents source.0 source.1

abbrev pub AreSourceBatches : List Value → List (Text × Text) → List (List Item) → List Value → Type 0
AreSourceBatches = AreBatchesOf IsSourceBatch

-- a call is kept with its outcome
abbrev pub IsKeptBatch : List Value → Call × Outcome → List Item → Type 0
IsKeptBatch contents kept = IsCallBatch contents kept.0 kept.1

abbrev pub AreCallBatches : List Value → Calls → List (List Item) → List Value → Type 0
AreCallBatches = AreBatchesOf IsKeptBatch

-- a fact of a node is noted, with what the node comes to at present
abbrev pub IsRecordBatch : List Value → Fresh → List Item → Type 0
IsRecordBatch contents fresh = IsNotesBatch contents (fresh ∷ [])

abbrev pub AreRecordBatches : List Value → List Fresh → List (List Item) → List Value → Type 0
AreRecordBatches = AreBatchesOf IsRecordBatch

-- what a rewritten store has
pub record Live : Type 0 where
  pub graph : Text
  pub sources : Texts
  pub calls : Calls
  pub records : List Fresh

-- Its batches, and the contents that they have: after those of the sources, after those of the calls, and after all.
pub record AreLive (live : Live) (batches : List (List Item)) (contents : List Value) : Type 0 where
  pub puts : List (List Item)
  pub keeps : List (List Item)
  pub notes : List (List Item)
  pub put : List Value
  pub kept : List Value
  pub sourced : AreSourceBatches [] (map.entries live.sources) puts put
  pub called : AreCallBatches put live.calls keeps kept
  pub noted : AreRecordBatches kept live.records notes contents
  pub batches_are : batches ≡ graph_batch live.graph ∷ (puts ++ keeps ++ notes)

-- ---- their length

-- how many bytes the payloads of batches have together
abbrev pub batch_text : List (List Item) → ℕ
batch_text [] = 0
batch_text (items ∷ batches) = length (spell_batch items) + batch_text batches

-- so long is the live batch text
abbrev pub IsLiveText : Live → ℕ → Type 0
IsLiveText live size = (batches : List (List Item)) × (contents : List Value) × AreLive live batches contents × (size ≡ batch_text batches)

-- ---- what they are read as

-- each source is a name with a text that isn't too long
abbrev pub MayBeSources : Texts → Type 0
MayBeSources sources = (name text : Text) → map.get sources name ≡ Some text → IsName name × (length text ≤ body_limit)

-- a call that may be kept after these
pub record ComesAfter (before : Calls) (kept : Call × Outcome) : Type 0 where
  pub formed : IsWellFormed kept.0
  pub fits : OutcomeFits kept.0 kept.1
  pub new : IsNone (kept_outcome before kept.0)

-- calls that may be kept one after another
abbrev pub ComeAfter : Calls → Calls → Type 0
ComeAfter before [] = ⊤
ComeAfter before (kept ∷ calls) = ComesAfter before kept × ComeAfter (before ++ kept ∷ []) calls

-- What a rewritten store may have. No node is noted twice: noted one after another, the facts stand as they are.
pub record MayLive (live : Live) : Type 0 where
  pub sources : MayBeSources live.sources
  pub calls : ComeAfter [] live.calls
  pub records : All IsNotable live.records
  pub once : put_facts (facts_of live.records) [] ≡ facts_of live.records

-- what is kept in it
abbrev pub live_state : Live → List Value → State
live_state live contents = record {
  tables = record { contents = contents; calls = live.calls; records = facts_of live.records };
  sources = live.sources;
  graph = Some live.graph;
  noted = facts_of live.records;
}
