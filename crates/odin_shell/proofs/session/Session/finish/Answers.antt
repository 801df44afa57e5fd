use Rattle.std.proofs.Common.{refl}
use Rattle.odin_shell.specs.declared.stop.Stop.TheVariants.{Memory}
use Rattle.odin_shell.proofs.AnswerLemmas.{at_stop}
use Rattle.odin_shell.proofs.SessionLemmas.{inside_finishes, line_finishes, part_stops_at_end, line_stops_at_end}
use Rattle.odin_shell.proofs.session.Session.finish.Goals as goal

pub returns-in_err-whole-clause-err : goal.returns-in_err-whole-clause-err
returns-in_err-whole-clause-err g c = at_stop _ Memory _ c.from_residual.ensures.1 (part_stops_at_end _ _ _ _ refl)

pub returns-in_err-whole-clause-counted : goal.returns-in_err-whole-clause-counted
returns-in_err-whole-clause-counted g c = at_stop _ Memory _ c.from_residual.ensures.1 refl

pub returns-in_default-clause-ok : goal.returns-in_default-clause-ok
returns-in_default-clause-ok g c = inside_finishes _ _ _ _ c.requires.idle (rw c.in_default.is at c.in_ok-whole.ensures)

pub returns-in_err-serve_command-clause-err : goal.returns-in_err-serve_command-clause-err
returns-in_err-serve_command-clause-err g c =
    at_stop _ c.in_err-serve_command.field-0.0 _ c.from_residual-in_err-serve_command.ensures.1
    (line_stops_at_end _ c.in_err-serve_command.field-0.0 _ _ _ _ _ _ _ c.in-Some.whole (rw c.in-Some.is at c.in_ok-whole.ensures) c.in_err-serve_command.ensures.err)

pub returns-in_err-serve_command-clause-counted : goal.returns-in_err-serve_command-clause-counted
returns-in_err-serve_command-clause-counted g c = at_stop _ c.in_err-serve_command.field-0.0 _ c.from_residual-in_err-serve_command.ensures.1 c.in_err-serve_command.ensures.counted

pub returns-clause-ok : goal.returns-clause-ok
returns-clause-ok g c = line_finishes _ _ _ _ _ _ c.in-Some.whole (rw c.in-Some.is at c.in_ok-whole.ensures) c.in_ok-serve_command.ensures.ok
