use Rattle.std.proofs.lemmas.Result.{IfOk-weaker, IfErr-weaker}
use Rattle.load_session.proofs.PutLemmas.{headers_stop, units_stop, sources_served, list_may, list_stops, first_ask_stops, first_asked}
use Rattle.load_session.proofs.SessionLemmas.{at_stop}
use Rattle.load_session.proofs.puts.serve_first.Goals as goal

pub returns-in_err-put_headers-clause-err : goal.returns-in_err-put_headers-clause-err
returns-in_err-put_headers-clause-err c =
    at_stop _ c.in_err-put_headers.field-0.0 _ c.from_residual.ensures.1
    (headers_stop c.args.units c.args.session.now c.in_err-put_headers.field-0.0 c.in_err-put_headers.ensures.err)

pub returns-in_err-put_units-clause-err : goal.returns-in_err-put_units-clause-err
returns-in_err-put_units-clause-err c =
    at_stop _ c.in_err-put_units.field-0.0 _ c.from_residual-in_err-put_units.ensures.1
    (units_stop c.args.units c.args.session.now c.put_headers.new.session c.in_err-put_units.field-0.0 c.in_ok-put_headers.ensures.ok c.in_err-put_units.ensures.err)

pub put_list-requires-clause-may : goal.put_list-requires-clause-may
put_list-requires-clause-may c =
    list_may c.args.units c.args.session.now c.put_units.new.session c.requires.may c.requires.few
    (sources_served c.args.units c.args.session.now c.put_headers.new.session c.put_units.new.session c.in_ok-put_headers.ensures.ok c.in_ok-put_units.ensures.ok)

pub returns-in_err-put_list-clause-err : goal.returns-in_err-put_list-clause-err
returns-in_err-put_list-clause-err c =
    at_stop _ c.in_err-put_list.field-0.0 _ c.from_residual-in_err-put_list.ensures.1
    (list_stops c.args.units c.args.session.now c.put_units.new.session c.in_err-put_list.field-0.0
    (sources_served c.args.units c.args.session.now c.put_headers.new.session c.put_units.new.session c.in_ok-put_headers.ensures.ok c.in_ok-put_units.ensures.ok)
    c.in_err-put_list.ensures.err)

pub returns-clause-ok : goal.returns-clause-ok
returns-clause-ok c =
    let served = sources_served c.args.units c.args.session.now c.put_headers.new.session c.put_units.new.session c.in_ok-put_headers.ensures.ok c.in_ok-put_units.ensures.ok in
    IfOk-weaker c.ask.result _ _
    (λ asked has. first_asked c.args.units c.args.session.now c.put_units.new.session c.put_list.new.session c.ask.new.self asked served c.in_ok-put_list.ensures.ok has)
    c.ask.ensures.ok

pub returns-clause-err : goal.returns-clause-err
returns-clause-err c =
    let served = sources_served c.args.units c.args.session.now c.put_headers.new.session c.put_units.new.session c.in_ok-put_headers.ensures.ok c.in_ok-put_units.ensures.ok in
    IfErr-weaker c.ask.result _ _
    (λ e stops. first_ask_stops c.args.units c.args.session.now c.put_units.new.session c.put_list.new.session e served c.in_ok-put_list.ensures.ok stops)
    c.ask.ensures.err
