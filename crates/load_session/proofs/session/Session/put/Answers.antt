use Rattle.std.proofs.Common.{refl}
use Rattle.load_session.proofs.SessionLemmas.{at_stop, put_served, put_stops}
use Rattle.load_session.proofs.session.Session.put.Goals as goal

pub returns-in_err-put-clause-err : goal.returns-in_err-put-clause-err
returns-in_err-put-clause-err c =
    at_stop _ c.in_err-put.field-0.0 _ c.from_residual-in_err-put.ensures.1
    (put_stops c.args.self.now (record { engine = c.put-put.new.self; disk = c.put-put.new.disk; tools = c.args.self.now.tools })
    c.args.name.now c.args.text c.in_ok-name.name c.in_ok-text.text c.in_err-put.field-0.0 c.in_ok-name.ensures.ok c.in_ok-text.ensures
    c.in_err-put.ensures.err c.in_err-put.ensures.cause.err c.fails_past_room.ensures)

pub returns-clause-ok : goal.returns-clause-ok
returns-clause-ok c =
    put_served c.args.self.now (record { engine = c.put-put.new.self; disk = c.put-put.new.disk; tools = c.args.self.now.tools })
    c.args.name.now c.args.text c.in_ok-name.name c.in_ok-text.text c.in_ok-put.field-0 c.in_ok-name.ensures.ok c.in_ok-text.ensures
    c.in_ok-put.ensures.ok c.in_ok-put.ensures.knows c.in_ok-put.ensures.stays refl c.in_ok-put.ensures.left.ready c.requires.may.rests
