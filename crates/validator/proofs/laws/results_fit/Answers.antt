use Rattle.validator.proofs.Results.{results_fit}
use Rattle.validator.proofs.laws.results_fit.Goals as goal

pub returns : goal.returns
returns c = results_fit
