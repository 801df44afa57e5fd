use Rattle.std.proofs.Common.{refl}
use Rattle.meaning_texts.specs.Reading.{expression_of, kept_params}
use Rattle.meaning_texts.proofs.Readings.{is_read}
use Rattle.meaning_texts.proofs.examples.longest_texts.Goals as goal

pub returns : goal.returns
unfolding expression_of kept_params
returns c = record { name = is_read _ _ refl; id = is_read _ _ refl; key = is_read _ _ refl; text = is_read _ _ refl; digit = is_read _ _ refl }
