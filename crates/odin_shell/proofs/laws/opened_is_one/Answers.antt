use Rattle.odin_shell.proofs.OpenedLemmas.{opened_is_one}
use Rattle.odin_shell.proofs.laws.opened_is_one.Goals as goal

pub returns : goal.returns
returns c = opened_is_one
