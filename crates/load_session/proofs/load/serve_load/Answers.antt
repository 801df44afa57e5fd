use Rattle.std.proofs.Common.{refl, arith}
use Rattle.load_session.proofs.SessionLemmas.{at_stop}
use Rattle.load_session.proofs.LoadLemmas.{first_serves, serves_less, edit_serves, first_fails, second_fails, third_fails, all_loaded}
use Rattle.load_session.proofs.load.serve_load.Goals as goal

pub returns-in_err-first-clause-err : goal.returns-in_err-first-clause-err
returns-in_err-first-clause-err c =
    at_stop _ c.in_err-first.field-0.0 _ c.from_residual-in_err-first.ensures.1
    (first_fails c.args.units c.in_ok-session.session c.in_err-first.field-0.0 c.in_ok-session.ensures.ok c.in_err-first.ensures.err)

pub serve_edit-requires : goal.serve_edit-requires
serve_edit-requires c =
    serves_less 1000 1 c.serve_first.new.session
    (first_serves c.args.units c.in_ok-session.session c.serve_first.new.session c.in_ok-first.first c.in_ok-session.ensures.ok c.requires.few c.in_ok-first.ensures.ok)
    (omega arith)

pub returns-in_err-second-clause-err : goal.returns-in_err-second-clause-err
returns-in_err-second-clause-err c =
    at_stop _ c.in_err-second.field-0.0 _ c.from_residual-in_err-second.ensures.1
    (second_fails c.args.units c.in_ok-session.session _ _ c.in_err-second.field-0.0 c.in_ok-session.ensures.ok c.in_ok-first.ensures.ok c.in_err-second.ensures.err)

pub serve_edit-requires-2 : goal.serve_edit-requires-2
serve_edit-requires-2 c =
    edit_serves 2 c.serve_first.new.session c.serve_edit.new.session c.in_ok-second.second
    (first_serves c.args.units c.in_ok-session.session c.serve_first.new.session c.in_ok-first.first c.in_ok-session.ensures.ok c.requires.few c.in_ok-first.ensures.ok)
    c.in_ok-second.ensures.ok

pub returns-in_err-third-clause-err : goal.returns-in_err-third-clause-err
returns-in_err-third-clause-err c =
    at_stop _ c.in_err-third.field-0.0 _ c.from_residual-in_err-third.ensures.1
    (third_fails c.args.units c.in_ok-session.session _ _ _ _ c.in_err-third.field-0.0 c.in_ok-session.ensures.ok c.in_ok-first.ensures.ok c.in_ok-second.ensures.ok c.in_err-third.ensures.err)

pub returns-clause-ok : goal.returns-clause-ok
returns-clause-ok c =
    all_loaded c.args.units c.in_ok-session.session c.serve_first.new.session c.serve_edit.new.session c.serve_edit-2.new.session
    c.in_ok-first.first c.in_ok-second.second c.in_ok-third.third _
    c.in_ok-session.ensures.ok c.in_ok-first.ensures.ok c.in_ok-second.ensures.ok c.in_ok-third.ensures.ok refl refl refl
