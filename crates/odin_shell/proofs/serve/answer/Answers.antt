use Rattle.std.proofs.Common.{ap, refl, sym, ◌∙◌, subst}
use Rattle.object_values.specs.declared.replies.Reply.TheVariants as reply
use Rattle.meaning_commands.specs.Replies.{reply_text}
use Rattle.odin_bytes.specs.declared.commands.Command.TheVariants as command
use Rattle.meaning_derive.specs.Answers as answers
use Rattle.odin_journal.specs.declared.fault.JournalFault.TheVariants as fault
use Rattle.odin_store.specs.Held.{drops}
use Rattle.odin_answers.specs.Edits.{SaysReply}
use Rattle.odin_shell.proofs.AnswerLemmas.{at_stop, same_answers}
use Rattle.odin_shell.proofs.CommandLemmas.{edit_onward, put_said, put_unsaid, remove_said, remove_unsaid, take_said, take_unsaid, ask_said, ask_unsaid, shown, unshown}
use Rattle.odin_shell.proofs.OursLemmas.{put_ours, change_ours}
use Rattle.odin_shell.proofs.ShowLemmas.{plan_answers, sources_answers, kept_answers}
use Rattle.odin_shell.proofs.serve.answer.Goals as goal

-- ---- edits

pub returns-in-Put-clause-ok : goal.returns-in-Put-clause-ok
returns-in-Put-clause-ok g c =
    put_said _ _ _ _ _ _ _ _ _ c.in-Put.name c.in-Put.count _ (sym c.into_parts-command.ensures.command ∙ c.in-Put.is) c.into_parts-command.ensures.body c.put.result
    c.put.ensures.says c.put.ensures.ok c.put.ensures.stays c.put.ensures.left c.put.ensures.cause

pub returns-in-Put-clause-err : goal.returns-in-Put-clause-err
returns-in-Put-clause-err g c =
    put_unsaid _ _ c.put.new.engine _ _ _ _ _ _ c.in-Put.name c.in-Put.count _ (sym c.into_parts-command.ensures.command ∙ c.in-Put.is) c.into_parts-command.ensures.body c.put.result c.put.ensures.err c.put.ensures.cause

pub returns-in-Take-clause-ok : goal.returns-in-Take-clause-ok
returns-in-Take-clause-ok g c =
    take_said _ _ _ _ _ _ _ _ _ _ c.in-Take.name (sym c.into_parts-command.ensures.command ∙ c.in-Take.is) c.take.ensures.asked c.take.result
    c.take.ensures.says c.take.ensures.ok c.take.ensures.stays c.take.ensures.left c.take.ensures.cause

pub returns-in-Take-clause-err : goal.returns-in-Take-clause-err
returns-in-Take-clause-err g c =
    take_unsaid _ _ c.take.new.engine _ _ _ _ _ _ _ c.in-Take.name (sym c.into_parts-command.ensures.command ∙ c.in-Take.is) c.take.ensures.asked c.take.result c.take.ensures.err c.take.ensures.cause

pub returns-in-Remove-clause-ok : goal.returns-in-Remove-clause-ok
returns-in-Remove-clause-ok g c =
    remove_said _ _ _ _ _ _ _ _ _ c.in-Remove.name (sym c.into_parts-command.ensures.command ∙ c.in-Remove.is) c.remove.result
    c.remove.ensures.says c.remove.ensures.ok c.remove.ensures.stays c.remove.ensures.left c.remove.ensures.cause

pub returns-in-Remove-clause-err : goal.returns-in-Remove-clause-err
returns-in-Remove-clause-err g c = remove_unsaid _ _ c.remove.new.engine _ _ _ _ _ _ c.in-Remove.name (sym c.into_parts-command.ensures.command ∙ c.in-Remove.is) c.remove.result c.remove.ensures.err c.remove.ensures.cause

pub returns-in-Put-clause-onward : goal.returns-in-Put-clause-onward
returns-in-Put-clause-onward g c = edit_onward _ _ _ _ _ c.in-Put.name c.put.result c.put.ensures.ok c.put.ensures.left c.put.ensures.cause

pub returns-in-Take-clause-onward : goal.returns-in-Take-clause-onward
returns-in-Take-clause-onward g c = edit_onward _ _ _ _ _ c.in-Take.name c.take.result c.take.ensures.ok c.take.ensures.left c.take.ensures.cause

pub returns-in-Remove-clause-onward : goal.returns-in-Remove-clause-onward
returns-in-Remove-clause-onward g c = edit_onward _ _ _ _ _ c.in-Remove.name c.remove.result c.remove.ensures.ok c.remove.ensures.left c.remove.ensures.cause

pub returns-in-Put-clause-ours : goal.returns-in-Put-clause-ours
returns-in-Put-clause-ours g c = put_ours _ _ _ _ _ _ _ c.put.result c.put.ensures.err

pub returns-in-Take-clause-ours : goal.returns-in-Take-clause-ours
returns-in-Take-clause-ours g c = put_ours _ _ _ _ _ _ _ c.take.result c.take.ensures.err

pub returns-in-Remove-clause-ours : goal.returns-in-Remove-clause-ours
returns-in-Remove-clause-ours g c = change_ours g.D.Disk.told (drops c.in-Remove.name) c.args.engine.now.store c.remove.new.engine.store c.args.disk.now c.remove.new.disk c.remove.result c.remove.ensures.err

-- ---- asks

pub returns-in-Ask-clause-ok : goal.returns-in-Ask-clause-ok
returns-in-Ask-clause-ok g c = ask_said _ _ _ _ _ _ _ _ _ _ c.in-Ask.text _ (sym c.into_parts-command.ensures.command ∙ c.in-Ask.is) c.as_slice.ensures c.ask.result c.ask.ensures.ok

pub returns-in-Ask-clause-err : goal.returns-in-Ask-clause-err
returns-in-Ask-clause-err g c = ask_unsaid _ _ c.args.engine.now _ _ _ _ _ _ _ c.in-Ask.text _ (sym c.into_parts-command.ensures.command ∙ c.in-Ask.is) c.as_slice.ensures c.ask.result c.ask.ensures.err

-- ---- commands that change nothing

pub returns-in_ok-plan-in-Plan-clause-ok : goal.returns-in_ok-plan-in-Plan-clause-ok
returns-in_ok-plan-in-Plan-clause-ok g c =
    shown _ _ _ (command.Plan c.in-Plan.text) _ _ _ _ (sym c.into_parts-command.ensures.command ∙ c.in-Plan.is) _
    (λ told. plan_answers _ _ told _ _ c.in-Plan.text (subst (λ t. SaysReply (answers.Plan c.args.engine.now.graph t) c.in_ok-plan-in-Plan.field-0) c.as_slice-in-Plan.ensures c.in_ok-plan-in-Plan.ensures))

pub returns-in_err-plan-in-Plan-clause-err : goal.returns-in_err-plan-in-Plan-clause-err
returns-in_err-plan-in-Plan-clause-err g c =
    at_stop _ fault.Memory _ c.from_residual.ensures.1 (unshown _ _ _ (command.Plan c.in-Plan.text) _ _ _ _ (sym c.into_parts-command.ensures.command ∙ c.in-Plan.is) (λ trust on limit state body. refl))

pub returns-in_ok-list-in-Sources-clause-ok : goal.returns-in_ok-list-in-Sources-clause-ok
returns-in_ok-list-in-Sources-clause-ok g c =
    shown _ _ _ command.Sources _ _ _ _ (sym c.into_parts-command.ensures.command ∙ c.in-Sources.is) _ (λ told. sources_answers _ _ told _ _ c.in_ok-list-in-Sources.ensures)

pub returns-in_err-list-in-Sources-clause-err : goal.returns-in_err-list-in-Sources-clause-err
returns-in_err-list-in-Sources-clause-err g c =
    at_stop _ fault.Memory _ c.from_residual-in_err-list-in-Sources.ensures.1 (unshown _ _ _ command.Sources _ _ _ _ (sym c.into_parts-command.ensures.command ∙ c.in-Sources.is) (λ trust on limit state body. refl))

pub returns-in_ok-text_of-in-Kept-clause-ok : goal.returns-in_ok-text_of-in-Kept-clause-ok
returns-in_ok-text_of-in-Kept-clause-ok g c =
    shown _ _ _ command.Kept _ _ _ _ (sym c.into_parts-command.ensures.command ∙ c.in-Kept.is) _
    (λ told. kept_answers _ _ told _ _ (c.in_ok-text_of-in-Kept.ensures ∙ ap (λ n. reply_text (reply.Kept n)) (rw c.store.ensures at (rw c.kept.ensures at c.calls.ensures))))

pub returns-in_err-text_of-in-Kept-clause-err : goal.returns-in_err-text_of-in-Kept-clause-err
returns-in_err-text_of-in-Kept-clause-err g c =
    at_stop _ fault.Memory _ c.from_residual-in_err-text_of-in-Kept.ensures.1 (unshown _ _ _ command.Kept _ _ _ _ (sym c.into_parts-command.ensures.command ∙ c.in-Kept.is) (λ trust on limit state body. refl))

pub returns-in_ok-text_of-in-Quit-clause-ok : goal.returns-in_ok-text_of-in-Quit-clause-ok
returns-in_ok-text_of-in-Quit-clause-ok g c =
    shown _ _ _ command.Quit _ _ _ _ (sym c.into_parts-command.ensures.command ∙ c.in-Quit.is) _
    (λ told. same_answers _ _ command.Quit _ _ told (λ trust on limit state body graph held. (c.in_ok-text_of-in-Quit.ensures, refl)))

pub returns-in_err-text_of-in-Quit-clause-err : goal.returns-in_err-text_of-in-Quit-clause-err
returns-in_err-text_of-in-Quit-clause-err g c =
    at_stop _ fault.Memory _ c.from_residual-in_err-text_of-in-Quit.ensures.1 (unshown _ _ _ command.Quit _ _ _ _ (sym c.into_parts-command.ensures.command ∙ c.in-Quit.is) (λ trust on limit state body. refl))

pub returns-in-Nothing-clause-ok : goal.returns-in-Nothing-clause-ok
returns-in-Nothing-clause-ok g c =
    shown _ _ _ command.Nothing _ _ _ _ (sym c.into_parts-command.ensures.command ∙ c.in-Nothing.is) _ (λ told. same_answers _ _ command.Nothing _ _ told (λ trust on limit state body graph held. (c.new.ensures, refl)))

pub returns-in_ok-text_of-in-Bad-clause-ok : goal.returns-in_ok-text_of-in-Bad-clause-ok
returns-in_ok-text_of-in-Bad-clause-ok g c =
    shown _ _ _ command.Bad _ _ _ _ (sym c.into_parts-command.ensures.command ∙ c.in-Bad.is) _
    (λ told. same_answers _ _ command.Bad _ _ told (λ trust on limit state body graph held. (c.in_ok-text_of-in-Bad.ensures, refl)))

pub returns-in_err-text_of-in-Bad-clause-err : goal.returns-in_err-text_of-in-Bad-clause-err
returns-in_err-text_of-in-Bad-clause-err g c =
    at_stop _ fault.Memory _ c.from_residual-in_err-text_of-in-Bad.ensures.1 (unshown _ _ _ command.Bad _ _ _ _ (sym c.into_parts-command.ensures.command ∙ c.in-Bad.is) (λ trust on limit state body. refl))

pub returns-in_ok-refuse_name-in-BadName-clause-ok : goal.returns-in_ok-refuse_name-in-BadName-clause-ok
returns-in_ok-refuse_name-in-BadName-clause-ok g c =
    shown _ _ _ (command.BadName c.in-BadName.count) _ _ _ _ (sym c.into_parts-command.ensures.command ∙ c.in-BadName.is) _
    (λ told. same_answers _ _ (command.BadName c.in-BadName.count) _ _ told (λ trust on limit state body graph held. (c.in_ok-refuse_name-in-BadName.ensures, refl)))

pub returns-in_err-refuse_name-in-BadName-clause-err : goal.returns-in_err-refuse_name-in-BadName-clause-err
returns-in_err-refuse_name-in-BadName-clause-err g c =
    at_stop _ fault.Memory _ c.from_residual-in_err-refuse_name-in-BadName.ensures.1
    (unshown _ _ _ (command.BadName c.in-BadName.count) _ _ _ _ (sym c.into_parts-command.ensures.command ∙ c.in-BadName.is) (λ trust on limit state body. refl))
