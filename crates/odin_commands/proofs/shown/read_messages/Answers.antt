use Rattle.odin_commands.proofs.ObjectLemmas.{messages_told}
use Rattle.odin_commands.proofs.shown.read_messages.Goals as goal

pub read_counted-requires : goal.read_counted-requires
read_counted-requires c = messages_told c.escapes_read_back.ensures
