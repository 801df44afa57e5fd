use Rattle.odin_shell.proofs.MadeLemmas.{stays_true, left_true}
use Rattle.odin_shell.proofs.laws.kept_stays_true.Goals as goal

pub returns : goal.returns
returns c = record { replied = stays_true; left = left_true }
