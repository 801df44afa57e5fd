use Rattle.std.proofs.Common.{◌≡◌, ap, subst, sym, ◌∙◌}
use Rattle.std.specs.Prelude.{Err, IfErr, Result}
use Rattle.std.proofs.lemmas.Result.{err_from_is_err_and}
use Rattle.odin_journal.specs.declared.fault.JournalFault.{JournalFault}
use Rattle.meaning_records.specs.Batches.{facts_of}
use Rattle.odin_store.specs.Edited.{HasFailed}
use Rattle.odin_store.specs.Held.{notes}
use Rattle.kept_derive.proofs.CallLemmas.{refused_but}
use Rattle.kept_derive.proofs.KnowLemmas.{says_facts}
use Rattle.kept_derive.proofs.ToldLemmas.{keeps_told, not_noted, still_may}
use Rattle.kept_derive.proofs.telling.keep.Goals as goal

pub returns-in_err-keep_nodes-clause-fails : goal.returns-in_err-keep_nodes-clause-fails
returns-in_err-keep_nodes-clause-fails g c =
    let given = err_from_is_err_and _ c.from_residual.ensures.1 in
    let fault = c.in_err-keep_nodes.field-0.0 in
    let is : ◌≡◌ {A = Result (Unit {0}) JournalFault} c.from_residual.result (Err fault) = given.1 ∙ ap (λ (f : JournalFault). Err f) given.2 in
    let kept = c.in_err-keep_nodes.ensures in
    let failed = not_noted g.D.Disk.told c.args.fresh.now c.args.store.now c.keep_nodes.new.self c.args.disk.now c.keep_nodes.new.disk
    c.edits_are_told.ensures fault kept.fault
    (λ apart. kept.same (refused_but (Unit {0}) fault apart)) c.keep_nodes.ensures.any_moment c.keep_nodes.ensures.begins in
    subst (λ (r : Result (Unit {0}) JournalFault). IfErr r (HasFailed g.D.Disk.told (notes (facts_of c.args.fresh.now)) c.args.store.now
    c.keep_nodes.new.self c.args.disk.now c.keep_nodes.new.disk)) (sym is) failed

pub renew_all-requires : goal.renew_all-requires
renew_all-requires g c =
    still_may g.D.Disk.told c.args.fresh.now c.args.store.now c.keep_nodes.new.self c.args.disk.now c.keep_nodes.new.disk c.in_ok-keep_nodes.ensures.notes
    c.args.renewed _ c.requires

pub returns-clause-keeps : goal.returns-clause-keeps
returns-clause-keeps g c =
    let said = says_facts c.args.store.now c.kept.result.now c.kept.ensures c.records_fit.ensures.says in
    let says = says_facts c.keep_nodes.new.self c.kept-2.result.now c.kept-2.ensures c.records_fit-2.ensures.says in
    keeps_told g.D.Disk.told c.args.fresh.now c.args.store.now c.keep_nodes.new.self c.args.disk.now c.keep_nodes.new.disk
    c.in_ok-keep_nodes.ensures.notes c.args.renewed _ c.requires
    c.changes_follow.ensures c.keep_nodes.ensures.any_moment said says c.renew_all.new.store c.renew_all.ensures.same c.renew_all.ensures.renewed
