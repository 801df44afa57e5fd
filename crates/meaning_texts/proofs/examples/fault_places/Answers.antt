use Rattle.std.proofs.Common.{refl}
use Rattle.meaning_texts.specs.Reading.{expression_of, kept_params}
use Rattle.meaning_texts.specs.Fronts.{is_front, fault_place}
use Rattle.meaning_texts.proofs.Found.{fault_by}
use Rattle.meaning_texts.proofs.Spaces.{too_long}
use Rattle.meaning_texts.proofs.examples.fault_places.Goals as goal

pub returns : goal.returns
unfolding expression_of kept_params fault_place is_front
returns c = record { ends_early = fault_by _ _ refl refl; empty = fault_by _ _ refl refl; begins = fault_by _ _ refl refl; too_long = too_long; wrong_first = fault_by _ _ refl refl }
