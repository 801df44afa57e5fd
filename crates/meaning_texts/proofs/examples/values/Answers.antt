use Rattle.std.proofs.Common.{refl}
use Rattle.meaning_texts.specs.Reading.{expression_of, kept_params}
use Rattle.meaning_texts.specs.Fronts.{is_front, fault_place}
use Rattle.meaning_texts.proofs.Readings.{is_read}
use Rattle.meaning_texts.proofs.Found.{fault_by}
use Rattle.meaning_texts.proofs.examples.values.Goals as goal

pub returns : goal.returns
unfolding expression_of kept_params fault_place is_front
returns c = record { empty = is_read _ _ refl; last = is_read _ _ refl; equals = is_read _ _ refl; delete = fault_by _ _ refl refl }
