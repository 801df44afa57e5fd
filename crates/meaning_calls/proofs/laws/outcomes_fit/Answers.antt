use Rattle.meaning_calls.proofs.Fitting.{fits}
use Rattle.meaning_calls.proofs.laws.outcomes_fit.Goals as goal

pub returns : goal.returns
returns c = fits
