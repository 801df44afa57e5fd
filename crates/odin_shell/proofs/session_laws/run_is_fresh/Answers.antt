use Rattle.odin_shell.proofs.FreshLemmas.{run_fresh}
use Rattle.odin_shell.proofs.session_laws.run_is_fresh.Goals as goal

pub returns : goal.returns
returns c = run_fresh
