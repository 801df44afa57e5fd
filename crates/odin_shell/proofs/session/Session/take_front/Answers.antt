use Rattle.std.proofs.Common.{refl}
use Rattle.odin_shell.specs.declared.stop.Stop.TheVariants.{Memory}
use Rattle.odin_shell.proofs.AnswerLemmas.{at_stop}
use Rattle.odin_shell.proofs.ServeLemmas.{onward_none}
use Rattle.odin_shell.proofs.SessionLemmas.{part_goes, whole_goes, part_stops, whole_stops}
use Rattle.odin_shell.proofs.session.Session.take_front.Goals as goal

pub returns-in_err-count-clause-err : goal.returns-in_err-count-clause-err
returns-in_err-count-clause-err g c = at_stop _ Memory _ c.from_residual.ensures.1 (part_stops _ c.args.piece.now _ _ _ refl)

pub returns-in_err-count-clause-counted : goal.returns-in_err-count-clause-counted
returns-in_err-count-clause-counted g c = at_stop _ Memory _ c.from_residual.ensures.1 refl

pub returns-in_err-serve_command-clause-err : goal.returns-in_err-serve_command-clause-err
returns-in_err-serve_command-clause-err g c =
    at_stop _ c.in_err-serve_command.field-0.0 _ c.from_residual-in_err-serve_command.ensures.1
    (whole_stops _ c.in_err-serve_command.field-0.0 c.args.piece.now _ _ _ _ _ _ _ _ _ c.in-Some.whole c.in_ok-count.ensures.some c.in_ok-count.ensures.within (rw c.in-Some.is at c.in_ok-count.ensures.takes) c.in_err-serve_command.ensures.err)

pub returns-in_err-serve_command-clause-counted : goal.returns-in_err-serve_command-clause-counted
returns-in_err-serve_command-clause-counted g c = at_stop _ c.in_err-serve_command.field-0.0 _ c.from_residual-in_err-serve_command.ensures.1 c.in_err-serve_command.ensures.counted

pub returns-in_ok-serve_command-clause-ok : goal.returns-in_ok-serve_command-clause-ok
returns-in_ok-serve_command-clause-ok g c = whole_goes _ _ _ _ _ _ _ _ c.in-Some.whole (rw c.in-Some.is at c.in_ok-count.ensures.takes) c.in_ok-serve_command.ensures.ok

pub returns-in_default-clause-ok : goal.returns-in_default-clause-ok
returns-in_default-clause-ok g c = part_goes _ _ _ _ _ _ c.requires.may.idle (rw c.in_default.is at c.in_ok-count.ensures.takes)

pub returns-in_default-clause-onward : goal.returns-in_default-clause-onward
returns-in_default-clause-onward g c = onward_none _ 1 _ _ c.requires.may.ready
