use Rattle.std.proofs.Common.{refl}
use Rattle.meaning_texts.specs.Reading.{expression_of, kept_params}
use Rattle.meaning_texts.proofs.Readings.{is_read}
use Rattle.meaning_texts.proofs.examples.canonical_spelling.Goals as goal

pub returns : goal.returns
unfolding expression_of kept_params
returns c = record { read = is_read _ _ refl; written = refl; again = is_read _ _ refl }
