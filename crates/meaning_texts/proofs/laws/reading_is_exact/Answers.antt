use Rattle.meaning_texts.proofs.Readings.{reads, is_read}
use Rattle.meaning_texts.proofs.laws.reading_is_exact.Goals as goal

pub returns : goal.returns
returns c = λ text e. (is_read text e, reads text e)
