use Rattle.odin_commands.proofs.TextLemmas.{lines_told}
use Rattle.odin_commands.proofs.ObjectLemmas.{no_list}
use Rattle.odin_commands.proofs.shown.read_list.Goals as goal

pub read_counted-requires : goal.read_counted-requires
read_counted-requires c = lines_told

pub returns-in-None : goal.returns-in-None
returns-in-None c = no_list c.args.text.now (rw c.in-None.is at c.in_ok-lines.ensures)
