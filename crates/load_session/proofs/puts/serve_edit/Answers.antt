use Rattle.std.proofs.Common.{[], ◌∷◌}
use Rattle.std.proofs.lemmas.Result.{IfOk-weaker, IfErr-weaker}
use Rattle.load_session.specs.Session.{puts_header, asks}
use Rattle.load_session.proofs.SessionLemmas.{at_stop, asked_then, first_stops, then_stops}
use Rattle.load_session.proofs.puts.serve_edit.Goals as goal

pub returns-in_err-put_header-clause-err : goal.returns-in_err-put_header-clause-err
returns-in_err-put_header-clause-err c =
    at_stop _ c.in_err-put_header.field-0.0 _ c.from_residual.ensures.1
    (first_stops c.args.session.now (puts_header c.args.value 1 ∷ []) (asks ∷ []) c.in_err-put_header.field-0.0 c.in_err-put_header.ensures.err)

pub returns-clause-ok : goal.returns-clause-ok
returns-clause-ok c =
    IfOk-weaker c.ask.result _ _
    (λ asked has.
    asked_then c.args.session.now (puts_header c.args.value 1 ∷ []) c.put_header.new.session (asks ∷ []) c.ask.new.self asked c.in_ok-put_header.ensures.ok has)
    c.ask.ensures.ok

pub returns-clause-err : goal.returns-clause-err
returns-clause-err c =
    IfErr-weaker c.ask.result _ _
    (λ e stops. then_stops c.args.session.now (puts_header c.args.value 1 ∷ []) [] c.put_header.new.session (asks ∷ []) e c.in_ok-put_header.ensures.ok stops)
    c.ask.ensures.err
