use Rattle.std.proofs.Common.{rules, arith}
use Rattle.odin_shell.proofs.AnswerLemmas.{at_stop}
use Rattle.odin_shell.proofs.ServeLemmas.{onward_none, onward_more, onward_all, may_go_on, counted_behind}
use Rattle.odin_shell.proofs.SessionLemmas.{none_goes, piece_goes, all_goes, piece_stops}
use Rattle.odin_shell.proofs.session.Session.take_piece.Goals as goal

pub loop-at-init : goal.loop-at-init
loop-at-init g c = record {
  within = search rules;
  goes = none_goes _ c.args.piece.now _ _ _ c.requires.idle;
  onward = onward_none _ 0 _ _ c.requires.ready;
}

pub take_front-requires-clause-may : goal.take_front-requires-clause-may
take_front-requires-clause-may g c = may_go_on _ _ c.loop-at.at _ _ _ _ _ _ (omega arith) c.requires c.loop-at.invariant.onward c.loop-at.invariant.goes.idle

pub returns-in_err-at-clause-err : goal.returns-in_err-at-clause-err
returns-in_err-at-clause-err g c =
    at_stop _ c.in_err-at.field-0.0 _ c.from_residual.ensures.1 (piece_stops _ c.in_err-at.field-0.0 c.args.piece.now c.loop-at.at _ _ _ _ _ _ _ _ _ _ c.loop-at.invariant.goes c.in_err-at.ensures.err)

pub returns-in_err-at-clause-counted : goal.returns-in_err-at-clause-counted
returns-in_err-at-clause-counted g c = at_stop _ c.in_err-at.field-0.0 _ c.from_residual.ensures.1 (counted_behind c.in_err-at.field-0.0 _ _ _ c.loop-at.invariant.onward.faults c.in_err-at.ensures.counted)

pub loop-at-preserved : goal.loop-at-preserved
loop-at-preserved g c = record {
  within = search rules;
  goes = piece_goes _ c.args.piece.now c.loop-at.at c.in_ok-at.field-0 _ _ _ _ _ _ _ _ _ c.loop-at.invariant.goes c.in_ok-at.ensures.ok;
  onward = onward_more _ c.loop-at.at c.in_ok-at.field-0 _ _ _ _ _ _ (let some = c.in_ok-at.ensures.front.0 in omega (arith, some)) c.loop-at.invariant.onward c.in_ok-at.ensures.onward;
}

pub returns-clause-ok : goal.returns-clause-ok
returns-clause-ok g c = all_goes _ c.args.piece.now c.loop-at.at _ _ _ _ _ _ (omega arith) (omega arith) c.loop-at.invariant.goes

pub returns-clause-onward : goal.returns-clause-onward
returns-clause-onward g c = onward_all _ c.loop-at.at _ _ _ _ _ (omega arith) c.loop-at.invariant.onward
