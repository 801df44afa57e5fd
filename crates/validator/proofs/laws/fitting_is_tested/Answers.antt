use Rattle.validator.proofs.FitLemmas.{fact_decides}
use Rattle.validator.proofs.laws.fitting_is_tested.Goals as goal

pub returns : goal.returns
returns c g fact = fact_decides g fact
