use Rattle.std.proofs.Common.{[]}
use Rattle.odin_journal.specs.declared.fault.JournalFault.TheVariants as fault
use Rattle.odin_shell.proofs.AnswerLemmas.{at_stop, ask_answers, unsaid, ask_halts}
use Rattle.odin_shell.proofs.OursLemmas.{ask_ours}
use Rattle.odin_shell.proofs.serve.ask.Goals as goal

pub returns-in_err-reply-clause-err : goal.returns-in_err-reply-clause-err
returns-in_err-reply-clause-err g c =
    at_stop _ c.in_err-reply.field-0.0 _ c.from_residual.ensures.1
    (ask_halts _ _ c.answer_ask.new.engine _ _ _ _ _ c.in_err-reply.field-0.0 c.in_err-reply.ensures.err c.in_err-reply.ensures.rest.answer c.in_err-reply.ensures.rest.later c.in_err-reply.ensures.rest.few c.in_err-reply.ensures.cause.later c.in_err-reply.ensures.cause.err)

pub returns-in_err-text_of-clause-err : goal.returns-in_err-text_of-clause-err
returns-in_err-text_of-clause-err g c =
    at_stop _ fault.Memory _ c.from_residual-in_err-text_of.ensures.1
    (unsaid _ _ c.answer_ask.new.engine _ _ _ _ _ c.in_ok-reply.reply [] c.in_ok-reply.ensures.ok c.in_ok-reply.ensures.rest.answer c.in_ok-reply.ensures.rest.later c.in_ok-reply.ensures.rest.few c.in_ok-reply.ensures.cause.ok)

pub returns-clause-ok : goal.returns-clause-ok
returns-clause-ok g c =
    ask_answers _ _ _ _ _ _ _ _ c.in_ok-reply.reply _ c.in_ok-reply.ensures.ok c.in_ok-reply.ensures.rest.answer c.in_ok-reply.ensures.rest.later c.in_ok-reply.ensures.rest.few c.in_ok-reply.ensures.cause.ok
    c.in_ok-text_of.ensures c.in_ok-reply.ensures.stays c.in_ok-reply.ensures.left.ready c.in_ok-reply.ensures.rest.idle

pub returns-in_err-reply-clause-ours : goal.returns-in_err-reply-clause-ours
returns-in_err-reply-clause-ours g c = at_stop _ c.in_err-reply.field-0.0 _ c.from_residual.ensures.1 (ask_ours _ _ _ _ _ _ c.in_err-reply.field-0.0 c.in_err-reply.ensures.err)
