use Rattle.meaning_calls.proofs.Tested.{well_formed_decides}
use Rattle.meaning_calls.proofs.laws.well_formed_is_tested.Goals as goal

pub returns : goal.returns
returns c = λ call. well_formed_decides call
