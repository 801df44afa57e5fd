use Rattle.odin_shell.proofs.CompleteLemmas.{runs_complete}
use Rattle.odin_shell.proofs.session_laws.runs_complete.Goals as goal

pub returns : goal.returns
returns g c = runs_complete c.asked_is_one.ensures c.one_offset.ensures _
