use Rattle.std.proofs.Common.{refl}
use Rattle.std.proofs.lemmas.Result.{IfOk-weaker, IfErr-weaker}
use Rattle.odin_journal.specs.declared.fault.JournalFault.TheVariants as fault
use Rattle.odin_answers.proofs.ChangeLemmas.{none_changed, wanting}
use Rattle.odin_answers.proofs.EditLemmas.{file_unread}
use Rattle.odin_answers.proofs.edits.take.Goals as goal

pub returns-in-Err-Failed-clause-says : goal.returns-in-Err-Failed-clause-says
returns-in-Err-Failed-clause-says g c =
    let cause = c.in-Err-Failed.ensures.cause in
    let is = c.in-Err-Failed.field-0-is in
    IfOk-weaker c.say.result _ _ (λ bytes said. file_unread _ _ _ _ bytes (record { later = cause.later; rose = cause.failed (λ e. cc) }) said) c.say.ensures.ok

pub returns-in-Err-Failed-clause-ok : goal.returns-in-Err-Failed-clause-ok
returns-in-Err-Failed-clause-ok g c = none_changed g.D.Disk.told c.changes_follow.ensures c.args.name c.args.engine.now.store c.args.disk.now c.say.result

pub returns-in-Err-Failed-clause-err : goal.returns-in-Err-Failed-clause-err
returns-in-Err-Failed-clause-err g c =
    IfErr-weaker c.say.result _ _ (λ e is. wanting g.D.Disk.told _ c.args.name c.args.engine.now.store c.args.disk.now e is) c.say.ensures.err

pub returns-clause-err : goal.returns-clause-err
returns-clause-err g c = wanting g.D.Disk.told _ c.args.name c.args.engine.now.store c.args.disk.now fault.Memory refl
