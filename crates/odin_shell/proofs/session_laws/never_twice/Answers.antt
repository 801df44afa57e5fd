use Rattle.odin_shell.proofs.OnceLemmas.{came_once}
use Rattle.odin_shell.proofs.session_laws.never_twice.Goals as goal

pub returns : goal.returns
returns c = came_once
