use Rattle.odin_commands.proofs.ObjectLemmas.{no_message_line, no_message}
use Rattle.odin_commands.proofs.items.MessageItem.read.Goals as goal

pub returns-in_default : goal.returns-in_default
returns-in_default c = no_message_line c.args.text.now c.in_default.ensures.none

pub returns-in-None : goal.returns-in-None
returns-in-None c =
    let cut = c.in-Some.ensures.some in
    no_message c.args.text.now c.in-Some.line.now c.in-Some.behind.now cut.0 cut.1 (rw c.in-None.is at c.in_ok-message.ensures)
