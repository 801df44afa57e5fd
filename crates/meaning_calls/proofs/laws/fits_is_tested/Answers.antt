use Rattle.meaning_calls.proofs.Tested.{fits_decides}
use Rattle.meaning_calls.proofs.laws.fits_is_tested.Goals as goal

pub returns : goal.returns
returns c = λ call outcome. fits_decides call outcome
