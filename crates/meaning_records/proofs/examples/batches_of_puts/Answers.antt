use Rattle.std.proofs.Common.{◌≡◌, inl, inr, ℕ, [], ◌∷◌, length, refl, ap, arith, codes}
use Rattle.object_values.specs.declared.views.Value.TheVariants.{Simple}
use Rattle.object_values.specs.declared.items.Item.TheVariants.{Content, Put}
use Rattle.meaning_records.specs.Batches.{IsPutBatch}
use Rattle.meaning_records.specs.BatchExamples.{contents, known}
use Rattle.meaning_records.proofs.NewTexts.{fresh_is_none}
use Rattle.meaning_records.proofs.examples.batches_of_puts.Goals as goal

again : ¬ IsPutBatch contents (codes "b.c") known (Content (Simple known) ∷ Put (codes "b.c") 2 ∷ [])
again (inl there) =
    let size : ◌≡◌ {A = ℕ} 2 1 = ap length there.2 in
    omega (arith, size)
again (inr new) = new.0 0 refl

pub returns : goal.returns
returns c = record { of_known = inl (0, refl, refl); of_fresh = inr (fresh_is_none, refl); known_again = again }
