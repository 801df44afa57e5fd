use Rattle.std.proofs.Common.{◌≡◌, ◌<◌, rules, arith}
use Rattle.meaning_texts.specs.Lines.{without_cr}
use Rattle.meaning_commands.specs.Commands.{Spells, bytes_after_line}
use Rattle.odin_shell.proofs.CutLemmas.{line_ended, line_begun}
use Rattle.odin_shell.proofs.cutter.Cutter.end_line.Goals as goal

pub returns-then-body_size-gt0 : goal.returns-then-body_size-gt0
returns-then-body_size-gt0 c =
    let spelled : Spells (without_cr c.args.self.now.line) c.in_ok-command.command = search rules in
    let some : 0 < bytes_after_line c.in_ok-command.command = omega arith in
    line_begun _ _ _ _ c.in_ok-command.command c.requires c.clear.ensures spelled some c.in_ok-new.ensures

pub returns : goal.returns
returns c =
    let spelled : Spells (without_cr c.args.self.now.line) c.in_ok-command.command = search rules in
    let no_bytes : bytes_after_line c.in_ok-command.command ≡ 0 = omega arith in
    line_ended _ _ _ c.in_ok-command.command _ c.requires c.clear.ensures spelled no_bytes c.new-2.ensures
