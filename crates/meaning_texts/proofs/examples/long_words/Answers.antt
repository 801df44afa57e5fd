use Rattle.std.proofs.Common.{refl}
use Rattle.meaning_texts.specs.Reading.{expression_of, kept_params}
use Rattle.meaning_texts.specs.Fronts.{is_front, fault_place}
use Rattle.meaning_texts.proofs.Found.{fault_by}
use Rattle.meaning_texts.proofs.examples.long_words.Goals as goal

pub returns : goal.returns
unfolding expression_of kept_params fault_place is_front
returns c = record { name = fault_by _ _ refl refl; id = fault_by _ _ refl refl; key = fault_by _ _ refl refl }
