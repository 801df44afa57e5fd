use Rattle.meaning_texts.proofs.GoOn.{front_from_test}
use Rattle.meaning_texts.proofs.GoneOn.{test_from_front}
use Rattle.meaning_texts.proofs.laws.fronts_are_tested.Goals as goal

pub returns : goal.returns
returns c = λ bytes. (front_from_test bytes, test_from_front bytes)
