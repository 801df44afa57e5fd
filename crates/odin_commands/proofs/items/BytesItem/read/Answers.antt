use Rattle.odin_commands.proofs.TextLemmas.{no_line}
use Rattle.odin_commands.proofs.items.BytesItem.read.Goals as goal

pub returns-in_default : goal.returns-in_default
returns-in_default c = λ line behind good. no_line c.args.text.now line behind c.in_default.ensures.none
