use Rattle.meaning_records.proofs.NumberLemmas.{numbers_tell}
use Rattle.meaning_records.proofs.laws.numbers_tell_values.Goals as goal

pub returns : goal.returns
returns c = numbers_tell
