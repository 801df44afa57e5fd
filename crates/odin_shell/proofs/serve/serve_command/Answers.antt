use Rattle.std.proofs.Common.{◌≡◌, true, false, rules}
use Rattle.meaning_commands.specs.Commands.{ends_run}
use Rattle.odin_shell.specs.declared.stop.Stop.TheVariants.{Output}
use Rattle.odin_shell.proofs.AnswerLemmas.{at_stop}
use Rattle.odin_shell.proofs.ServeLemmas.{serves, stops_reply, stops_quit, stops_as, counts_as}
use Rattle.odin_shell.proofs.serve.serve_command.Goals as goal

pub returns-in-Err-clause-err : goal.returns-in-Err-clause-err
returns-in-Err-clause-err g c = stops_as _ _ c.args.whole _ _ _ _ _ _ _ c.in-Err.fault c.of_store.result c.of_store.ensures (c.in-Err.ensures.err _)

pub returns-in-Err-clause-counted : goal.returns-in-Err-clause-counted
returns-in-Err-clause-counted g c = counts_as c.in-Err.fault c.of_store.result _ _ c.of_store.ensures c.in-Err.ensures.cause.later c.in-Err.ensures.cause.err

pub returns-in_err-write_whole-clause-err : goal.returns-in_err-write_whole-clause-err
returns-in_err-write_whole-clause-err g c =
    at_stop _ Output _ c.from_residual.ensures.1
    (stops_reply _ _ _ c.args.whole _ _ _ _ _ _ _ _ _ _ c.as_slice.ensures (c.in-Ok.ensures.ok _) c.in-Ok.ensures.idle c.in_err-write_whole.ensures.err)

pub returns-in_err-write_whole-clause-counted : goal.returns-in_err-write_whole-clause-counted
returns-in_err-write_whole-clause-counted g c = at_stop _ Output _ c.from_residual.ensures.1 c.in-Ok.ensures.cause.ok

pub returns-then-last-clause-err : goal.returns-then-last-clause-err
returns-then-last-clause-err g c =
    let ends : ends_run c.args.whole.command ≡ true = search rules in
    stops_quit _ _ _ c.args.whole _ _ _ _ _ _ _ _ _ _ c.as_slice.ensures (c.in-Ok.ensures.ok _) c.in-Ok.ensures.idle ends c.in_ok-write_whole.ensures.ok

pub returns-clause-ok : goal.returns-clause-ok
returns-clause-ok g c =
    let on : ends_run c.args.whole.command ≡ false = search rules in
    serves _ _ _ c.args.whole _ _ _ _ _ _ _ _ _ _ c.as_slice.ensures (c.in-Ok.ensures.ok _) c.in-Ok.ensures.idle on c.in_ok-write_whole.ensures.ok
