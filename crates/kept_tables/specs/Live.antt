-- A copy of what is kept, as a store that is written anew has it.
use Rattle.std.specs.Prelude.{◌≡◌, ◌^◌, ◌≤◌, ℕ, List, length, map, Option}
use Rattle.std.specs.List.{All}
use Rattle.object_values.specs.declared.facts.Fresh.{Fresh}
use Rattle.object_values.specs.declared.records.NodeRecord.{NodeRecord}
use Rattle.object_values.specs.declared.views.Value.{Value}
use Rattle.object_values.specs.Texts.{Text, Texts}
use Rattle.object_values.specs.declared.items.Item.{Item}
use Rattle.meaning_records.specs.Tables.{IsShort}
use Rattle.meaning_records.specs.States.{spell_batch, nothing, ReadsAll}
use Rattle.meaning_records.specs.Live.{AreLive, Live, live_state}
use Rattle.kept_contents.specs.declared.shared.Content.{Content}
use Rattle.kept_contents.specs.Added.{AreHeld}
use Rattle.kept_notes.specs.Facts.{IsRecordIn, fresh_of}
use Rattle.kept_tables.specs.Holdings.{Holding, fresh_in}

-- what tables have, with a graph and sources, when they are written anew
abbrev pub live_in : Text → Texts → Holding → Live
live_in graph sources kept = record { graph = graph; sources = sources; calls = kept.tables.calls; records = fresh_in kept }

-- the payloads of the batches, their contents, these as they are held, the last one first, and the records of nodes by their numbers
pub record LivePayloads : Type 0 where
  pub payloads : List (List ℕ)
  pub contents : List Value
  pub added : List Content
  pub notes : List NodeRecord

-- The payloads are those of the live batches.
pub record CopiesLive (kept : Live) (copy : LivePayloads) : Type 0 where
  pub batches : List (List Item)
  pub live : AreLive kept batches copy.contents
  pub payloads : copy.payloads ≡ map spell_batch batches

-- The payloads read as what is live.
abbrev pub ReadsAsLive : Live → LivePayloads → Type 0
ReadsAsLive live copy = ReadsAll nothing copy.payloads (live_state live copy.contents)

-- the epochs at which records were checked
abbrev pub epochs_of : List NodeRecord → List (Option ℕ)
epochs_of = map (λ (r : NodeRecord). r.checked)

-- Records by the numbers of these contents: they say this, with what each node comes to at present, and were checked at these epochs.
pub record AreCopied (contents : List Value) (fresh : List Fresh) (checked : List (Option ℕ)) (notes : List NodeRecord) : Type 0 where
  pub say : map (fresh_of contents) notes ≡ fresh
  pub checked_at : epochs_of notes ≡ checked
  pub named : All (IsRecordIn (length contents)) notes

-- The tables made this copy, and have not changed since.
pub record IsRenumbering (kept : Holding) (copy : LivePayloads) : Type 0 where
  pub held : AreHeld kept.texts copy.added
  pub room : length copy.added ≤ kept.room
  pub few : length copy.added ≤ 2 ^ 32
  pub short : All IsShort copy.contents
  pub notes : AreCopied copy.contents (fresh_in kept) (epochs_of kept.records.records) copy.notes
