use Rattle.odin_shell.proofs.MadeLemmas.{records_stay}
use Rattle.odin_shell.proofs.laws.records_stay_true.Goals as goal

pub returns : goal.returns
returns c = records_stay
