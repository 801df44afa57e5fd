use Rattle.std.proofs.Common.{IfOk, IfErr, refl, subst, sym}
use Rattle.std.specs.Prelude.{OnOk}
use Rattle.std.proofs.lemmas.Result.{IfOk-weaker}
use Rattle.odin_store.specs.Held.{puts}
use Rattle.odin_store.specs.OnDisk.{IsChangeFault, IsSame}
use Rattle.odin_store.specs.Changes.{MayPut, PutBatch}
use Rattle.odin_store.specs.Edited.{HasPut, HasFailed}
use Rattle.odin_store.specs.FaultLemmas.{fault_told}
use Rattle.kept_derive.specs.Knowing.{StaysKnown}
use Rattle.kept_derive.proofs.Lemmas.{known_after_edit}
use Rattle.odin_engine.specs.Engaged.{Engaged}
use Rattle.odin_engine.proofs.StoreForLemmas.{edited_for, known_edited}
use Rattle.odin_engine.proofs.engine.Engine.put.Goals as goal

pub returns-clause-ok : goal.returns-clause-ok
returns-clause-ok g c =
    let store = c.self.inside.store in
    let next = c.put_source-put.new.self in
    let disk = c.args.disk.now in
    let after = c.put_source-put.new.disk in
    subst (λ (e : Engaged). IfOk c.put_source-put.result (HasPut g.D.Disk.told c.args.name.now c.args.text.now e.store next disk after)) c.self.view_is
    (IfOk-weaker c.put_source-put.result _ _ (λ changed edits. c.edits_are_told.ensures.put c.args.name.now c.args.text.now store next disk after changed edits c.put_source-put.ensures.any_moment) c.put_source-put.ensures.puts)

pub returns-clause-err : goal.returns-clause-err
returns-clause-err g c =
    let store = c.self.inside.store in
    let next = c.put_source-put.new.self in
    let disk = c.args.disk.now in
    let after = c.put_source-put.new.disk in
    let change = puts c.args.name.now c.args.text.now in
    subst (λ (e : Engaged). IfErr c.put_source-put.result (HasFailed g.D.Disk.told change e.store next disk after)) c.self.view_is
    (fault_told c.put_source-put.result (IsChangeFault (PutBatch store c.args.name.now c.args.text.now) change store) (HasFailed g.D.Disk.told change store next disk after) (IsSame store next disk after)
    c.put_source-put.ensures.fault c.put_source-put.ensures.same
    (λ e told same. c.edits_are_told.ensures.failed change store next disk after e told same c.put_source-put.ensures.any_moment c.put_source-put.ensures.begins))

pub returns-clause-knows : goal.returns-clause-knows
returns-clause-knows g c =
    let store = c.self.inside.store in
    let next = c.put_source-put.new.self in
    let said = rw c.kept.ensures at c.records_fit.ensures.says in
    let says = rw c.kept-2.ensures at c.records_fit-2.ensures.says in
    subst (λ (e : Engaged). OnOk c.put_source-put.result (StaysKnown e.store next)) c.self.view_is
    (IfOk-weaker c.put_source-put.result _ _
    (λ changed edits. known_edited g.D.Disk.told _ _ _ store next c.args.disk.now c.put_source-put.new.disk changed edits (λ held. refl) (λ held. refl)
    (λ nodes calls facts epoch. known_after_edit store next said says c.stamps_fit.ensures nodes calls facts epoch))
    c.put_source-put.ensures.puts)

pub invariant_of-self : goal.invariant_of-self
invariant_of-self g c =
    let store = c.self.inside.store in
    let may = subst (λ (e : Engaged). MayPut e.store (g.D.Disk.size_of c.args.disk.now) c.args.text.now) (sym c.self.view_is) c.requires in (
      c.self.invariant.0,
      c.self.invariant.1,
      c.self.invariant.2,
      edited_for c.self.inside.graph g.D.Disk.told _ _ _ store c.put_source-put.new.self c.args.disk.now c.put_source-put.new.disk _ c.put_source-put.result (c.self.invariant.3 may.ready.journal.fresh)
          c.put_source-put.ensures.puts c.put_source-put.ensures.same c.put_source-put.ensures.left,
    )
