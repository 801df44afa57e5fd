use Rattle.std.proofs.Common.{◌≡◌, ◌∙◌, ap, subst}
use Rattle.std.proofs.lemmas.Result.{IfOk-weaker, IfErr-weaker}
use Rattle.meaning_derive.specs.Replies.{shown}
use Rattle.kept_notes.specs.Facts.{facts_of}
use Rattle.kept_tables.specs.declared.kept.Kept.{Kept}
use Rattle.odin_store.specs.declared.store.Store.{Store}
use Rattle.derive_walk.specs.declared.found.Found.TheVariants as found
use Rattle.odin_answers.specs.Faults.{IsReplyToFault}
use Rattle.odin_answers.proofs.AnswerLemmas.{shown_reply, unreplied, refused, stopped}
use Rattle.odin_answers.proofs.FaultLemmas.{at_want, refused_rests, refused_left, refused_cause}
use Rattle.odin_answers.proofs.answer.answer_counted.Goals as goal

-- ---- a view

pub returns-in_err-shown-in-Ok-clause-err : goal.returns-in_err-shown-in-Ok-clause-err
returns-in_err-shown-in-Ok-clause-err g c = at_want _ _ c.from_residual.ensures.1 (unreplied g.D.Disk.told _ _ _ _ _ (found.Answer c.in-Ok.view) c.in-Ok.ensures.ok)

pub returns-in-Ok-clause-ok : goal.returns-in-Ok-clause-ok
returns-in-Ok-clause-ok g c =
    shown_reply g.D.Disk.told _ _ _ _ _ c.in-Ok.view _ c.in-Ok.ensures.ok
    (c.in_ok-shown-in-Ok.ensures ∙ ap (λ on. shown on c.in-Ok.view) (c.graph.ensures ∙ c.in-Ok.ensures.stays.graph))
    (subst (λ (k : Kept). k.tables.records ≡ facts_of k.tables.contents k.records.records) (c.kept.ensures ∙ ap (λ (s : Store). s.kept) c.store.ensures)
    c.records_fit.ensures.says)

-- ---- a fault

pub returns-clause-ok : goal.returns-clause-ok
returns-clause-ok g c =
    IfOk-weaker c.refused.result _ _
    (λ reply says. refused g.D.Disk.told _ _ _ _ _ c.in-Err.fault reply c.in-Err.ensures.err (subst (λ on. IsReplyToFault on c.in-Err.fault reply) (c.graph-in-Err.ensures ∙ c.in-Err.ensures.stays.graph) says)) c.refused.ensures.ok

pub returns-clause-err : goal.returns-clause-err
returns-clause-err g c = IfErr-weaker c.refused.result _ _ (λ why says. stopped g.D.Disk.told _ _ _ _ _ c.in-Err.fault why c.in-Err.ensures.err says) c.refused.ensures.err

pub returns-clause-rest : goal.returns-clause-rest
returns-clause-rest g c = refused_rests c.graph-in-Err.result.now _ _ _ c.in-Err.fault c.refused.result c.refused.ensures.ok c.refused.ensures.err c.in-Err.ensures.rest

pub returns-clause-left : goal.returns-clause-left
returns-clause-left g c = refused_left c.graph-in-Err.result.now _ _ c.in-Err.fault c.refused.result c.refused.ensures.ok c.refused.ensures.err c.in-Err.ensures.left.left

pub returns-clause-cause : goal.returns-clause-cause
returns-clause-cause g c = refused_cause c.graph-in-Err.result.now _ _ c.in-Err.fault c.refused.result c.refused.ensures.ok c.refused.ensures.err c.in-Err.ensures.cause.later c.in-Err.ensures.cause.err
