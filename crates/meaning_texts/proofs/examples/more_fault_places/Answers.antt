use Rattle.std.proofs.Common.{refl}
use Rattle.meaning_texts.specs.Reading.{expression_of, kept_params}
use Rattle.meaning_texts.specs.Fronts.{is_front, fault_place}
use Rattle.meaning_texts.proofs.Found.{fault_by}
use Rattle.meaning_texts.proofs.examples.more_fault_places.Goals as goal

pub returns : goal.returns
unfolding expression_of kept_params fault_place is_front
returns c = record {
  digit = fault_by _ _ refl refl;
  inside = fault_by _ _ refl refl;
  spaced = fault_by _ _ refl refl;
  behind = fault_by _ _ refl refl;
  after_value = fault_by _ _ refl refl;
  key = fault_by _ _ refl refl;
}
