use Rattle.meaning_records.proofs.Takes.{one_read}
use Rattle.meaning_records.proofs.laws.reads_in_one_way.Goals as goal

pub returns : goal.returns
returns c = one_read
