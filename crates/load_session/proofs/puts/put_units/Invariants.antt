use Rattle.std.proofs.Common.{[]}
use Rattle.load_session.specs.Session.{unit_steps}
use Rattle.load_session.specs.Moments.{HasServed}
use Rattle.load_session.proofs.puts.put_units.Given as goal

abbrev pub invariant-loop-before : goal.invariant-loop-before
invariant-loop-before l = HasServed l.initial.session (unit_steps l.before) [] l.session
