-- Contents that a batch brings: those that the file hasn't, each once.
use Rattle.std.specs.Prelude.{◌≡◌, ◌⊎◌, ℕ, List, [], ◌∷◌, ◌++◌, All, map}
use Rattle.std.specs.List.{flat_map}
use Rattle.object_values.specs.declared.calls.CallPart.{CallPart}
use Rattle.object_values.specs.declared.views.Part.{Part}
use Rattle.object_values.specs.declared.views.Value.{Value}
use Rattle.meaning_texts.specs.Lists.{IsIn}
use Rattle.content_store.specs.Bodies.{Bodies}
use Rattle.meaning_records.specs.Batches.{body_of, contents_of}
pub use Rattle.meaning_records.specs.Tables.{IsContent, IsNoContent}
pub use Rattle.meaning_records.specs.Batches.{EachOnce}
use Rattle.kept_contents.specs.declared.shared.Content.{Content}
use Rattle.kept_contents.specs.Stocks.{IsHeldIn, values_of_contents}

-- the texts that a call needs, and those of its outputs
abbrev pub texts_of_parts : List CallPart → List (List ℕ)
texts_of_parts parts = flat_map (λ (p : CallPart). body_of p.body) parts

abbrev pub texts_of_outputs : List Part → List (List ℕ)
texts_of_outputs outputs = map (λ (o : Part). o.body) outputs

-- the contents with those that are added
abbrev pub contents_with : List Value → List Content → List Value
contents_with contents added = contents ++ values_of_contents added

-- each text is held in memory under its number
abbrev pub AreHeld : Bodies → List Content → Type 0
AreHeld texts added = All (IsHeldIn texts) added

-- A value is added where neither the file nor the batch has it.
abbrev pub AddsOne : List Value → Value → List Value → List Value → Type 0
AddsOne contents value old new = (new ≡ old) ⊎ ((new ≡ old ++ value ∷ []) × (¬ IsIn value old) × IsNoContent contents value)

-- one value after another
abbrev pub AddsAll : List Value → List Value → List Value → List Value → Type 0
AddsAll contents [] old new = new ≡ old
AddsAll contents (value ∷ values) old new = (next : List Value) × AddsOne contents value old next × AddsAll contents values next new

-- one text after another
abbrev pub AddsTexts : List Value → List (List ℕ) → List Value → List Value → Type 0
AddsTexts contents texts old new = AddsAll contents (contents_of texts) old new
