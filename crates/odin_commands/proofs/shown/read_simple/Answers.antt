use Rattle.odin_commands.proofs.TextLemmas.{no_size, no_sized}
use Rattle.odin_commands.proofs.ObjectLemmas.{no_simple}
use Rattle.odin_commands.proofs.shown.read_simple.Goals as goal

pub returns-in_default : goal.returns-in_default
returns-in_default c = no_simple c.args.text.now (no_size c.args.text.now c.in_default.ensures)

pub returns-in_default-cut_body : goal.returns-in_default-cut_body
returns-in_default-cut_body c =
    let number = c.in-Some.ensures in
    no_simple c.args.text.now (no_sized c.args.text.now c.in-Some.rest.now c.in-Some.size number.0 number.1 c.in_default-cut_body.ensures.none)
