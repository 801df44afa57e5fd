use Rattle.odin_shell.proofs.OnceLemmas.{survives}
use Rattle.odin_shell.proofs.session_laws.answers_survive.Goals as goal

pub returns : goal.returns
returns g c = survives c.asked_again.ensures _
