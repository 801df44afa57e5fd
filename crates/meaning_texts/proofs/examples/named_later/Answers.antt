use Rattle.std.proofs.Common.{refl}
use Rattle.meaning_texts.specs.Reading.{expression_of, kept_params}
use Rattle.meaning_texts.proofs.Readings.{is_read}
use Rattle.meaning_texts.proofs.examples.named_later.Goals as goal

pub returns : goal.returns
unfolding expression_of kept_params
returns c = record { kind = is_read _ _ refl; step = is_read _ _ refl }
