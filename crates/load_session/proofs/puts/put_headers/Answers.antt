use Rattle.std.proofs.Common.{arith}
use Rattle.load_session.proofs.PutLemmas.{next_may, next_served, next_stops}
use Rattle.load_session.proofs.SessionLemmas.{at_stop, nothing_served}
use Rattle.load_session.specs.Session.{puts_header}
use Rattle.load_session.proofs.puts.put_headers.Goals as goal

pub loop-before-init : goal.loop-before-init
loop-before-init c = nothing_served c.args.session.now c.requires.rests

pub put_header-requires : goal.put_header-requires
put_header-requires c = next_may (puts_header 1) _ _ _ c.loop-before.invariant 12 c.requires (omega arith)

pub returns-in_err-put_header-clause-err : goal.returns-in_err-put_header-clause-err
returns-in_err-put_header-clause-err c =
    at_stop _ c.in_err-put_header.field-0.0 _ c.from_residual.ensures.1
    (next_stops (puts_header 1) _ _ _ c.loop-before.invariant 12 c.in_err-put_header.field-0.0 (omega arith) c.in_err-put_header.ensures.err)

pub loop-before-preserved : goal.loop-before-preserved
loop-before-preserved c = next_served (puts_header 1) _ _ _ c.loop-before.invariant _ c.in_ok-put_header.ensures.ok
