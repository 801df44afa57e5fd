use Rattle.std.proofs.Common.{rules, ◌≡◌, ◌≢◌, [], length, sym, ◌∙◌, arith}
use Rattle.std.proofs.lemmas.List.{nil_from_length}
use Rattle.meaning_commands.specs.Commands.{nothing, too_long}
use Rattle.odin_commands.proofs.Behind.{spells_it, spells_none}
use Rattle.odin_commands.proofs.read.read_command.Goals as goal

pub returns-then-is_empty : goal.returns-then-is_empty
returns-then-is_empty c =
    let zero : length c.args.line.now ≡ 0 = search rules in
    nothing (nil_from_length c.args.line.now zero)

pub returns-then-line-gt-COMMAND_LIMIT : goal.returns-then-line-gt-COMMAND_LIMIT
returns-then-line-gt-COMMAND_LIMIT c = too_long (omega arith)

pub returns-in-Some : goal.returns-in-Some
returns-in-Some c = spells_it c.args.line.now c.in-Some.command (omega arith) (sym c.in-Some.is ∙ c.in_ok-command.ensures)

pub returns-in-None : goal.returns-in-None
returns-in-None c =
    let some : c.args.line.now ≢ [] = search rules in
    spells_none c.args.line.now some (sym c.in-None.is ∙ c.in_ok-command.ensures)
