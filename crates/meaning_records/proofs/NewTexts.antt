-- Contents that a batch writes.
use Rattle.std.proofs.Common.{◌≡◌, ℕ, zero, suc, List, [], ◌∷◌, ◌++◌, length, map, Option, Some, None, ap, arith}
use Rattle.object_values.specs.declared.views.Value.{Value}
use Rattle.object_values.specs.declared.views.Value.TheVariants.{Simple}
use Rattle.object_values.specs.Texts.{Text}
use Rattle.object_values.specs.declared.items.StoredCall.{StoredCall}
use Rattle.object_values.specs.declared.items.StoredOutcome.{StoredOutcome}
use Rattle.object_values.specs.declared.items.Item.TheVariants.{Content, Kept}
use Rattle.meaning_records.specs.Tables.{IsNoText}
use Rattle.meaning_records.specs.Batches.{contents_of}
use Rattle.meaning_records.specs.BatchExamples.{contents, fresh}

text_of : Value → Text
text_of (Simple text) = text
text_of _ = []

found_text : Option Value → Text
unfolding text_of
found_text None = []
found_text (Some value) = text_of value

pub fresh_is_none : IsNoText contents fresh
unfolding found_text
fresh_is_none zero is = let size : ◌≡◌ {A = ℕ} 3 1 = ap (λ (o : Option Value). length (found_text o)) is in omega (arith, size)
fresh_is_none (suc zero) is = let n : ⊥ = cc in n
fresh_is_none (suc (suc number)) is = let n : ⊥ = cc in n

-- the only content of a batch is what it adds
pub one_added : (text : Text) (s stored : StoredCall) (g given : StoredOutcome) (added : List Text) → Content (Simple text) ∷ Kept s g ∷ [] ≡ map Content (contents_of added) ++ Kept stored given ∷ [] → added ≡ text ∷ []
one_added text s stored g given [] is = let n : ⊥ = cc in absurd n
one_added text s stored g given (first ∷ []) is = let same : first ≡ text = cc in ap (λ (t : Text). t ∷ []) same
one_added text s stored g given (first ∷ second ∷ added) is = let n : ⊥ = cc in absurd n

pub two_added : (text more : Text) (s stored : StoredCall) (g given : StoredOutcome) (added : List Text) → Content (Simple text) ∷ Content (Simple more) ∷ Kept s g ∷ [] ≡ map Content (contents_of added) ++ Kept stored given ∷ [] → added ≡ text ∷ more ∷ []
two_added text more s stored g given [] is = let n : ⊥ = cc in absurd n
two_added text more s stored g given (first ∷ []) is = let n : ⊥ = cc in absurd n
two_added text more s stored g given (first ∷ second ∷ []) is =
    let heads : first ≡ text = cc in
    let others : second ≡ more = cc in
    cc
two_added text more s stored g given (first ∷ second ∷ third ∷ added) is = let n : ⊥ = cc in absurd n
