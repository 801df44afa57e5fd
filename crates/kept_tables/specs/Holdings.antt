-- What tables hold in memory, and what a batch makes of it that is prepared for them.
use Rattle.std.specs.Prelude.{◌≡◌, ◌↔◌, ◌^◌, ◌+◌, ◌<◌, ◌≤◌, ⊤, ℕ, List, [], ◌∷◌, ◌++◌, length, map, reverse, Option, Some, None, IsNone, IsSome}
use Rattle.std.specs.List.{All}
use Rattle.object_values.specs.declared.calls.Call.{Call}
use Rattle.object_values.specs.declared.calls.Outcome.{Outcome}
use Rattle.object_values.specs.declared.facts.Fresh.{Fresh}
use Rattle.object_values.specs.declared.messages.Status.TheVariants.{Abort}
use Rattle.object_values.specs.declared.nodes.Node.{Node}
use Rattle.object_values.specs.declared.records.NodeRecord.{NodeRecord}
use Rattle.object_values.specs.declared.records.Renewed.{Renewed}
use Rattle.object_values.specs.declared.views.Value.{Value}
use Rattle.meaning_texts.specs.Limits.{height_limit}
use Rattle.meaning_calls.specs.Jobs.{IsWellFormed}
use Rattle.meaning_calls.specs.Outcomes.{OutcomeFits}
use Rattle.content_store.specs.Bodies.{Bodies}
use Rattle.object_values.specs.declared.items.Item.{Item}
use Rattle.object_values.specs.declared.items.Item.TheVariants as item_of
use Rattle.meaning_records.specs.Records.{item}
use Rattle.meaning_records.specs.States.{spell_batch}
use Rattle.meaning_records.specs.Tables.{Tables, Calls, IsShort, LoadsAll, kept_outcome, put_facts}
use Rattle.kept_records.specs.Records.{RecordStock, record_of}
use Rattle.kept_notes.specs.Facts.{IsNotedIn, facts_of, fresh_of}
use Rattle.kept_contents.specs.declared.shared.Content.{Content}
use Rattle.kept_contents.specs.declared.held.HeldCall.{HeldCall}
use Rattle.kept_contents.specs.declared.head.CallHead.{CallHead}
use Rattle.kept_contents.specs.declared.keys.CallKey.{CallKey}
use Rattle.kept_tables.specs.declared.call_table.Entry.{Entry}
use Rattle.kept_contents.specs.Added.{AreHeld, contents_with}
use Rattle.kept_contents.specs.Stocks.{values_of_contents}
use Rattle.kept_contents.specs.Held.{IsHeld}
use Rattle.kept_contents.specs.Keys.{IsKeyOf}
use Rattle.kept_contents.specs.Heads.{call_with}

-- the tables, the texts and the heads that are held in memory by their numbers there, the records of nodes by the numbers of contents, and room for
-- contents and calls more
pub record Holding : Type 0 where
  pub tables : Tables
  pub texts : Bodies
  pub heads : List CallHead
  pub records : RecordStock
  pub room : ℕ
  pub call_room : ℕ

-- what is noted of nodes, with what each comes to at present
abbrev pub fresh_in : Holding → List Fresh
fresh_in kept = map (fresh_of kept.tables.contents) kept.records.records

-- Contents are short, and records of nodes, by their numbers, say what may be noted.
pub record AreNotedIn (contents : List Value) (records : List NodeRecord) : Type 0 where
  pub short : All IsShort contents
  pub noted : All (IsNotedIn contents) records

-- What a node may come to at present: its height is one of a node with steps, and its status is abort exactly where its record has no value.
pub record MayRenew (kept : Holding) (node : Node) (present : Renewed) : Type 0 where
  pub has : IsSome (record_of node kept.records.records)
  pub least : 1 ≤ present.height
  pub most : present.height ≤ height_limit
  pub valued : (r : NodeRecord) → record_of node kept.records.records ≡ Some r → (IsNone r.value ↔ (present.status ≡ Abort))

-- the bytes of a batch, the contents that it adds, the last one first, the call that it keeps, and the records of nodes that it notes
pub record Batch : Type 0 where
  pub payload : List ℕ
  pub added : List Content
  pub call : Option (HeldCall × Outcome)
  pub notes : List NodeRecord

abbrev pub held_calls_of : Option (HeldCall × Outcome) → Calls
held_calls_of None = []
held_calls_of (Some (held, outcome)) = (held.call, outcome) ∷ []

-- a call that may be kept
pub record MayKeep (tables : Tables) (call : Call) (outcome : Outcome) : Type 0 where
  pub formed : IsWellFormed call
  pub fits : OutcomeFits call outcome
  pub new : IsNone (kept_outcome tables.calls call)

-- the call of a batch is held and may be kept
abbrev pub MayKeepSome : Holding → Option (HeldCall × Outcome) → Type 0
MayKeepSome kept None = ⊤
MayKeepSome kept (Some (held, outcome)) = IsHeld kept.heads kept.texts held × MayKeep kept.tables held.call outcome

-- and there is room for it
abbrev pub MayAdd : Holding → Option (HeldCall × Outcome) → Type 0
MayAdd kept None = ⊤
MayAdd kept (Some (held, outcome)) = IsHeld kept.heads kept.texts held × MayKeep kept.tables held.call outcome × (0 < kept.call_room)

-- the tables with contents more, with what records say over them, and with calls more
abbrev pub with_contents : Tables → List Content → Tables
with_contents tables added = record tables { contents = contents_with tables.contents added }

abbrev pub with_notes : Tables → List NodeRecord → Tables
with_notes tables notes = record tables { records = put_facts (facts_of tables.contents notes) tables.records }

abbrev pub with_calls : Tables → Calls → Tables
with_calls tables more = record tables { calls = tables.calls ++ more }

-- the tables with what a batch adds
abbrev pub with_batch : Tables → Batch → Tables
with_batch tables batch = with_calls (with_notes (with_contents tables (reverse batch.added)) batch.notes) (held_calls_of batch.call)

-- Contents that may come after the others, of which the last one stands first: there is room for them.
pub record MayCome (kept : Holding) (added : List Content) : Type 0 where
  pub held : AreHeld kept.texts added
  pub room : length added ≤ kept.room
  pub few : length kept.tables.contents + length added ≤ 2 ^ 32
  pub short : All IsShort (values_of_contents (reverse added))

-- Taking this batch into these tables, which prepared it, makes those of them.
pub record Commits (kept : Holding) (batch : Batch) (next : Tables) : Type 0 where
  pub held : AreHeld kept.texts batch.added
  pub room : length batch.added ≤ kept.room
  pub few : length kept.tables.contents + length batch.added ≤ 2 ^ 32
  pub call : MayAdd kept batch.call
  pub short : All IsShort (values_of_contents (reverse batch.added))
  pub notes : All (IsNotedIn (contents_with kept.tables.contents (reverse batch.added))) batch.notes
  pub note_room : length batch.notes ≤ kept.records.room
  pub next_is : next ≡ with_batch kept.tables batch

-- the items of the contents that a batch adds
abbrev pub items_of_contents : List Content → List Item
items_of_contents added = map item_of.Content (values_of_contents added)

-- and the items after them
abbrev pub items_with : List Content → List Item → List Item
items_with added rest = items_of_contents added ++ rest

-- A batch has the bytes of these items, and may be taken in.
pub record MakesBatch (added : List Content) (rest : List Item) (call : Option (HeldCall × Outcome)) (notes : List NodeRecord) (kept : Holding)
    (batch : Batch) : Type 0 where
  pub fit : All item.fits (items_with added rest)
  pub spelled : batch.payload ≡ spell_batch (items_with added rest)
  pub added_is : reverse batch.added ≡ added
  pub call_is : batch.call ≡ call
  pub notes_are : batch.notes ≡ notes
  pub commits : Commits kept batch (with_batch kept.tables batch)

-- A batch of these items is prepared: its bytes are theirs, they may come after the tables, and taking it in makes of the tables what they make.
pub record Prepares (items : List Item) (kept : Holding) (batch : Batch) : Type 0 where
  pub fit : All item.fits items
  pub spelled : batch.payload ≡ spell_batch items
  pub next : Tables
  pub loads : LoadsAll kept.tables items next
  pub commits : Commits kept batch next

-- a batch of some such items
abbrev pub PreparesSome : (List Item → Type 0) → Holding → Batch → Type 0
PreparesSome IsBatch kept batch = (items : List Item) × IsBatch items × Prepares items kept batch

-- The records of a batch say, over the contents after it, what is to be noted, with what each node comes to at present. They count as checked at the epoch.
pub record HasNotes (epoch : ℕ) (kept : Holding) (fresh : List Fresh) (batch : Batch) : Type 0 where
  pub say : facts_of (contents_with kept.tables.contents (reverse batch.added)) batch.notes ≡ map (λ (f : Fresh). f.fact) fresh
  pub present : map (λ (r : NodeRecord). r.present) batch.notes ≡ map (λ (f : Fresh). f.present) fresh
  pub checked : All (λ (r : NodeRecord). r.checked ≡ Some epoch) batch.notes

-- the tables prepared this batch, and have not changed since
abbrev pub IsPrepared : Holding → Batch → Type 0
IsPrepared kept batch = (next : Tables) × Commits kept batch next

-- what taking a batch in makes of the tables that prepared it
abbrev pub IsCommitted : Holding → Batch → Tables → Type 0
IsCommitted kept batch new = (next : Tables) → Commits kept batch next → new ≡ next

-- a kept call is well formed, and its outcome fits it
abbrev pub IsKept : Call × Outcome → Type 0
IsKept kept = IsWellFormed kept.0 × OutcomeFits kept.0 kept.1

-- ---- calls as they are held

abbrev pub kept_call_of : CallKey × Entry → Call × Outcome
kept_call_of entry = (call_with entry.1.head entry.0.parts, entry.1.outcome)

abbrev pub kept_calls_of : List (CallKey × Entry) → Calls
kept_calls_of = map kept_call_of

-- a kept call stands under its key
abbrev pub IsKeptIn : List CallHead → Bodies → CallKey × Entry → Type 0
IsKeptIn heads texts entry = IsKeyOf heads texts entry.0 (kept_call_of entry).0 × IsKept (kept_call_of entry)
