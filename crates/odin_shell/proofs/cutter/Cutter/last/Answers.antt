use Rattle.std.proofs.Common.{◌≡◌, ◌<◌, None, rules, arith}
use Rattle.meaning_texts.specs.Lines.{without_cr}
use Rattle.meaning_commands.specs.Commands.{Spells, bytes_after_line}
use Rattle.odin_shell.proofs.CutLemmas.{last_pending, last_begun, last_line}
use Rattle.odin_shell.proofs.cutter.Cutter.last.Goals as goal

pub returns-then-is_some : goal.returns-then-is_some
returns-then-is_some c = last_pending _ _ (search rules)

pub returns-then-body_size-gt0 : goal.returns-then-body_size-gt0
returns-then-body_size-gt0 c =
    let none : c.args.self.now.pending ≡ None = search rules in
    let spelled : Spells (without_cr c.args.self.now.line) c.in_ok-command.command = search rules in
    let some : 0 < bytes_after_line c.in_ok-command.command = omega arith in
    last_begun _ _ c.in_ok-command.command none spelled some

pub returns : goal.returns
returns c =
    let none : c.args.self.now.pending ≡ None = search rules in
    let spelled : Spells (without_cr c.args.self.now.line) c.in_ok-command.command = search rules in
    let no_bytes : bytes_after_line c.in_ok-command.command ≡ 0 = omega arith in
    last_line _ _ c.in_ok-command.command _ none spelled no_bytes c.new.ensures
