use Rattle.odin_shell.proofs.CountLemmas.{counts}
use Rattle.odin_shell.proofs.laws.refusals_are_counted.Goals as goal

pub returns : goal.returns
returns c = counts
