use Rattle.meaning_records.proofs.Images.{one_state, never_both, one_offset}
use Rattle.meaning_records.proofs.laws.stands_for_one.Goals as goal

pub returns : goal.returns
returns c = record { one = one_state; none = never_both; place = one_offset }
