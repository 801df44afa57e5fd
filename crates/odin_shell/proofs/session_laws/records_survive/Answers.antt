use Rattle.odin_shell.proofs.OnceLemmas.{records_there}
use Rattle.odin_shell.proofs.session_laws.records_survive.Goals as goal

pub returns : goal.returns
returns g c = records_there _
