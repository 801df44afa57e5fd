use Rattle.odin_commands.proofs.VerbLemmas.{replies_told}
use Rattle.odin_commands.proofs.laws.replies_read_back.Goals as goal

pub returns : goal.returns
returns c = replies_told c.escapes_read_back.ensures
