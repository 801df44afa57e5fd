use Rattle.validator.proofs.Exact.{verdict_exact}
use Rattle.validator.proofs.laws.verdicts_are_exact.Goals as goal

pub returns : goal.returns
returns c = verdict_exact
