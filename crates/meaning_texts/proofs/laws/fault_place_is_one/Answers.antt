use Rattle.meaning_texts.proofs.Places.{one_place}
use Rattle.meaning_texts.proofs.laws.fault_place_is_one.Goals as goal

pub returns : goal.returns
returns c = one_place
