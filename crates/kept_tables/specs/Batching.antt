-- How live batches are made, one after another, and how long they are.
use Rattle.std.specs.Prelude.{◌≡◌, ◌+◌, ℕ, List, [], ◌∷◌, ◌++◌, length, map, Option}
use Rattle.std.specs.List.{flat_map}
use Rattle.object_values.specs.declared.views.Part.{Part}
use Rattle.object_values.specs.declared.calls.CallPart.{CallPart}
use Rattle.object_values.specs.declared.calls.Outcome.{Outcome}
use Rattle.object_values.specs.declared.facts.Fresh.{Fresh}
use Rattle.object_values.specs.declared.records.NodeRecord.{NodeRecord}
use Rattle.object_values.specs.declared.items.StoredPart.{StoredPart}
use Rattle.object_values.specs.declared.items.StoredOutput.{StoredOutput}
use Rattle.object_values.specs.declared.views.Value.{Value}
use Rattle.object_values.specs.declared.items.Item.{Item}
use Rattle.object_values.specs.declared.items.Item.TheVariants.{Content}
use Rattle.meaning_records.specs.Forms.{bytes, list_of}
use Rattle.meaning_records.specs.Records.{line, output, pair, status, stored_part}
use Rattle.meaning_records.specs.Tables.{IsPartOf, ArePartsOf, IsOutputOf, AreOutputsOf}
use Rattle.meaning_records.specs.States.{spell_batch}
use Rattle.meaning_records.specs.Live.{AreBatchesOf, batch_text, contents_after}
use Rattle.kept_contents.specs.declared.head.CallHead.{CallHead}
use Rattle.kept_contents.specs.declared.shared.Content.{Content as Held}
use Rattle.kept_contents.specs.Added.{AreHeld}
use Rattle.kept_contents.specs.Stocks.{ContentStock, values_of_contents}
use Rattle.kept_notes.specs.Facts.{IsRecordIn, fresh_of}
use Rattle.kept_tables.specs.declared.live_batches.LiveBatches.{LiveBatches}
use Rattle.kept_tables.specs.declared.live_sizes.LiveSize.{LiveSize}

-- the contents, and the item after them
abbrev pub batch_of : List Value → Item → List Item
batch_of values last = map Content values ++ last ∷ []

-- The table has no contents, and holds the texts of those that are added.
pub record IsFresh (table : ContentStock) (added : List Held) : Type 0 where
  pub none : table.contents ≡ []
  pub held : AreHeld table.texts added

-- A record by the numbers of these contents: it says this, with what its node comes to at present, and was checked at this epoch.
pub record IsCopied (contents : List Value) (fresh : Fresh) (checked : Option ℕ) (noted : NodeRecord) : Type 0 where
  pub says : fresh_of contents noted ≡ fresh
  pub checked_at : noted.checked ≡ checked
  pub named : IsRecordIn (length contents) noted

-- Such a batch comes after the others, with the contents that it adds.
pub record AddsLiveBatch (IsBatch : List Value → List Item → Type 0) (old new : LiveBatches) : Type 0 where
  pub items : List Item
  pub is : IsBatch (values_of_contents old.added) items
  pub batches : new.batches ≡ old.batches ++ items ∷ []
  pub contents : values_of_contents new.added ≡ contents_after (values_of_contents old.added) items
  pub fresh : IsFresh new.table new.added

-- A batch of each of these things comes after the others.
pub record AddsLiveBatches {T : Type 0} (IsBatch : List Value → T → List Item → Type 0) (things : List T) (old new : LiveBatches) : Type 0 where
  pub more : List (List Item)
  pub are : AreBatchesOf IsBatch (values_of_contents old.added) things more (values_of_contents new.added)
  pub batches : new.batches ≡ old.batches ++ more
  pub fresh : IsFresh new.table new.added

-- ---- their length, without the batches

-- how many bytes contents are
abbrev pub contents_text : List Value → ℕ
contents_text values = length (spell_batch (map Content values))

-- so long are the batches: the contents, and the items after them
abbrev pub counted_text : LiveSize → ℕ
counted_text live = live.items + contents_text (values_of_contents live.added)

-- Such a batch is counted after the others, with the contents that it adds.
pub record CountsLiveBatch (IsBatch : List Value → List Item → Type 0) (old new : LiveSize) : Type 0 where
  pub items : List Item
  pub is : IsBatch (values_of_contents old.added) items
  pub text : counted_text new ≡ counted_text old + length (spell_batch items)
  pub contents : values_of_contents new.added ≡ contents_after (values_of_contents old.added) items
  pub fresh : IsFresh new.table new.added

-- A batch of each of these things is counted after the others.
pub record CountsLiveBatches {T : Type 0} (IsBatch : List Value → T → List Item → Type 0) (things : List T) (old new : LiveSize) : Type 0 where
  pub more : List (List Item)
  pub are : AreBatchesOf IsBatch (values_of_contents old.added) things more (values_of_contents new.added)
  pub text : counted_text new ≡ counted_text old + batch_text more
  pub fresh : IsFresh new.table new.added

-- inputs, by numbers of these contents, have so many bytes
abbrev pub CountsPart : List Value → CallPart → ℕ → Type 0
CountsPart contents part size = (stored : StoredPart) × IsPartOf contents stored part × (size ≡ length (stored_part.spell stored))

abbrev pub CountsParts : List Value → List CallPart → ℕ → Type 0
CountsParts contents parts size = (stored : List StoredPart) × ArePartsOf contents stored parts × (size ≡ length (flat_map stored_part.spell stored))

-- and outputs
abbrev pub CountsOutput : List Value → Part → ℕ → Type 0
CountsOutput contents out size = (stored : StoredOutput) × IsOutputOf contents stored out × (size ≡ length (output.spell stored))

abbrev pub CountsOutputs : List Value → List Part → ℕ → Type 0
CountsOutputs contents outputs size = (stored : List StoredOutput) × AreOutputsOf contents stored outputs × (size ≡ length (flat_map output.spell stored))

-- all else of an item that keeps a call: its kind and what of the call has no number of a content, and what of the outcome has none and two counts
abbrev pub head_text : CallHead → ℕ
head_text head = 1 + length (bytes.spell head.tool) + length (bytes.spell head.version) + length ((list_of bytes).spell head.words) + length ((list_of pair).spell head.params) + length ((list_of bytes).spell head.outs)

abbrev pub lines_text : Outcome → ℕ
lines_text outcome = length (status.spell outcome.status) + length ((list_of line).spell outcome.lines) + 8

abbrev pub rest_text : CallHead → Outcome → ℕ
rest_text head outcome = head_text head + lines_text outcome
