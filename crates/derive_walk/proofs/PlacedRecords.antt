-- The record that stands at the place of a node, and whether it is checked.
use Rattle.std.proofs.Common.{◌≡◌, ℕ, false, sym, ap, ◌∙◌, true≢false}
use Rattle.std.specs.Prelude.{Option, Some, None, option_map}
use Rattle.object_values.specs.declared.nodes.Node.{Node}
use Rattle.object_values.specs.declared.records.NodeRecord.{NodeRecord}
use Rattle.meaning_texts.proofs.Lemmas.{same_some, some_is_none}
use Rattle.meaning_true.specs.Knowing.{KeptRecord, IsChecked}
use Rattle.meaning_true.specs.Numbered.{is_at, kept_by}
use Rattle.derive_walk.specs.Keeping.{Keeping, IsNodeRecord, places_in, records_in}
use Rattle.derive_walk.specs.Places.{at_place}
use Rattle.derive_walk.specs.Trials.{IsNamed}

-- where there is none nothing is checked
none_checked : (k : Keeping) (n : Node) → records_in k n ≡ None → ¬ IsChecked (records_in k) n
none_checked k n none checked = some_is_none (records_in k n) checked.kept checked.is none

module _ (k : Keeping) (n : Node) (place : Option ℕ) (is : at_place (places_in k) place ≡ records_in k n) where
  pub no_place : place ≡ None → ¬ IsChecked (records_in k) n
  no_place none = none_checked k n (sym is ∙ ap (at_place (places_in k)) none)

  module _ (at : ℕ) (there : place ≡ Some at) where
    of_place : records_in k n ≡ option_map (kept_by k.contents k.epoch) (k.placed at)
    of_place = sym is ∙ ap (at_place (places_in k)) there

    pub none_at : k.placed at ≡ None → ¬ IsChecked (records_in k) n
    none_at none = none_checked k n (of_place ∙ ap (option_map (kept_by k.contents k.epoch)) none)

    module _ (r : NodeRecord) (stands : k.placed at ≡ Some r) where
      record_is : records_in k n ≡ Some (kept_by k.contents k.epoch r)
      record_is = of_place ∙ ap (option_map (kept_by k.contents k.epoch)) stands

      pub record_at : IsNamed k.contents r → IsNodeRecord k n r
      record_at named = record { is = record_is; named = named }

      pub not_checked : is_at k.epoch r.checked ≡ false → ¬ IsChecked (records_in k) n
      not_checked unchecked so =
          let same : kept_by k.contents k.epoch r ≡ so.kept = same_some (sym record_is ∙ so.is) in
          true≢false (sym so.checked ∙ sym (ap (λ (x : KeptRecord). x.checked) same) ∙ unchecked)
