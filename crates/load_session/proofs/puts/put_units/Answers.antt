use Rattle.std.proofs.Common.{arith}
use Rattle.load_session.proofs.PutLemmas.{next_may, next_served, next_stops}
use Rattle.load_session.proofs.SessionLemmas.{at_stop, nothing_served}
use Rattle.load_session.specs.Session.{puts_unit}
use Rattle.load_session.proofs.puts.put_units.Goals as goal

pub loop-before-init : goal.loop-before-init
loop-before-init c = nothing_served c.args.session.now c.requires.may.rests

pub put_unit-requires-clause-may : goal.put_unit-requires-clause-may
put_unit-requires-clause-may c = next_may puts_unit _ _ _ c.loop-before.invariant c.args.units c.requires.may (omega arith)

pub returns-in_err-put_unit-clause-err : goal.returns-in_err-put_unit-clause-err
returns-in_err-put_unit-clause-err c =
    at_stop _ c.in_err-put_unit.field-0.0 _ c.from_residual.ensures.1
    (next_stops puts_unit _ _ _ c.loop-before.invariant c.args.units c.in_err-put_unit.field-0.0 (omega arith) c.in_err-put_unit.ensures.err)

pub loop-before-preserved : goal.loop-before-preserved
loop-before-preserved c = next_served puts_unit _ _ _ c.loop-before.invariant _ c.in_ok-put_unit.ensures.ok
