use Rattle.std.proofs.Common.{◌≡◌, Result, Ok, Err, IfErr, IsErrAnd, subst, sym}
use Rattle.object_values.specs.Texts.{Text}
use Rattle.odin_journal.specs.declared.fault.JournalFault.{JournalFault}
use Rattle.odin_store.specs.Held.{puts}
use Rattle.odin_store.specs.Edited.{HasFailed}
use Rattle.odin_answers.specs.Changes.{PutsSource}
use Rattle.odin_answers.proofs.ChangeLemmas.{put_edited}
use Rattle.odin_answers.proofs.edits.set_text.Goals as goal

pub returns-clause-ok : goal.returns-clause-ok
returns-clause-ok g c =
    let store = c.args.engine.now.store in
    let next = c.put.new.self.store in
    subst (λ t. PutsSource g.D.Disk.told c.args.name.now t store next c.args.disk.now c.put.new.disk) c.in_ok-text.ensures
    (put_edited g.D.Disk.told c.args.name.now c.in_ok-text.text store next c.args.disk.now c.put.new.disk c.in_ok-put.field-0 c.in_ok-put.ensures.ok
    c.in_ok-put.ensures.knows)

-- a fault that is handed on
handed : {T : Type 0} (P : JournalFault → Type 0) (r : Result T JournalFault) (e : JournalFault) → IsErrAnd r (λ given. given ≡ e) → P e → IfErr r P
handed P (Ok x) e never there = tt
handed P (Err given) e is there = subst P (sym is) there

pub returns-in_err-put-clause-err : goal.returns-in_err-put-clause-err
returns-in_err-put-clause-err g c =
    let store = c.args.engine.now.store in
    let next = c.put.new.self.store in
    let disk = c.args.disk.now in
    let after = c.put.new.disk in
    let e = c.in_err-put.field-0.0 in
    handed (HasFailed g.D.Disk.told (puts c.args.name.now c.args.text) store next disk after) c.from_residual-in_err-put.result e c.from_residual-in_err-put.ensures.1
    (subst (λ (t : Text). HasFailed g.D.Disk.told (puts c.args.name.now t) store next disk after e) c.in_ok-text.ensures c.in_err-put.ensures.err)
