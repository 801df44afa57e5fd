use Rattle.std.proofs.Common.{◌<◌, ◌≤◌, ◌^◌, length, ap, ◌∙◌, subst, arith}
use Rattle.odin_store.specs.declared.store.Store.{Store}
use Rattle.kept_tables.specs.declared.kept.Kept.{Kept}
use Rattle.load_session.proofs.SessionLemmas.{at_stop, ask_rises, ask_served, ask_stops}
use Rattle.load_session.proofs.session.Session.ask.Goals as goal

pub returns-in_err-reply-clause-err : goal.returns-in_err-reply-clause-err
returns-in_err-reply-clause-err c =
    at_stop _ c.in_err-reply.field-0.0 _ c.from_residual.ensures.1
    (ask_stops c.args.self.now
    (record { engine = c.answer_ask-answer.new.engine; disk = c.answer_ask-answer.new.disk; tools = c.answer_ask-answer.new.tools })
    c.in_err-reply.field-0.0 c.requires c.in_err-reply.ensures.err c.in_err-reply.ensures.cause.err c.fails_past_room.ensures)

pub overflow_sub-result : goal.overflow_sub-result
overflow_sub-result c =
    let kept_is = c.calls-kept.ensures ∙ ap (λ (k : Kept). length k.tables.calls) (c.kept.ensures ∙ ap (λ (s : Store). s.kept) c.store.ensures) in
    let rises : c.args.self.now.tools.starts ≤ c.answer_ask-answer.new.tools.starts =
    ask_rises c.args.self.now
    (record { engine = c.answer_ask-answer.new.engine; disk = c.answer_ask-answer.new.disk; tools = c.answer_ask-answer.new.tools })
    c.in_ok-reply.reply c.in_ok-reply.ensures.ok c.requires (subst (λ n. n < 2 ^ 64) kept_is c.calls-kept.type_inv) in
    omega (arith, rises, c.starts-before.ensures, c.starts-after.ensures)

pub returns-clause-ok : goal.returns-clause-ok
returns-clause-ok c =
    let kept_is = c.calls-kept.ensures ∙ ap (λ (k : Kept). length k.tables.calls) (c.kept.ensures ∙ ap (λ (s : Store). s.kept) c.store.ensures) in
    ask_served c.args.self.now
    (record { engine = c.answer_ask-answer.new.engine; disk = c.answer_ask-answer.new.disk; tools = c.answer_ask-answer.new.tools })
    _ c.in_ok-reply.reply c.in_ok-reply.ensures.ok c.in_ok-reply.ensures.stays c.in_ok-reply.ensures.left.ready
    c.in_ok-reply.ensures.rest.idle c.requires (omega (arith, c.starts-before.ensures, c.starts-after.ensures)) c.shown_length.ensures
    kept_is (subst (λ n. n < 2 ^ 64) kept_is c.calls-kept.type_inv)
