use Rattle.odin_shell.proofs.MadeLemmas.{held_made}
use Rattle.odin_shell.proofs.laws.held_is_made.Goals as goal

pub returns : goal.returns
returns c = held_made
