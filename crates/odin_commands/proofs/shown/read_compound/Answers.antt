use Rattle.odin_commands.proofs.ObjectLemmas.{parts_told, no_compound}
use Rattle.odin_commands.proofs.shown.read_compound.Goals as goal

pub read_counted-requires : goal.read_counted-requires
read_counted-requires c = parts_told

pub returns-in-None : goal.returns-in-None
returns-in-None c = no_compound c.args.text.now (rw c.in-None.is at c.in_ok-parts.ensures)
