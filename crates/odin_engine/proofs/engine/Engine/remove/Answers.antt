use Rattle.std.proofs.Common.{IfOk, IfErr, refl, subst, sym}
use Rattle.std.specs.Prelude.{OnOk}
use Rattle.std.proofs.lemmas.Result.{IfOk-weaker}
use Rattle.odin_store.specs.Held.{drops}
use Rattle.odin_store.specs.OnDisk.{IsChangeFault, IsSame, StoreIsOpen}
use Rattle.odin_store.specs.Changes.{DropBatch}
use Rattle.odin_store.specs.Edited.{HasDropped, HasFailed}
use Rattle.odin_store.specs.FaultLemmas.{fault_told}
use Rattle.kept_derive.specs.Knowing.{StaysKnown}
use Rattle.kept_derive.proofs.Lemmas.{known_after_edit}
use Rattle.odin_engine.specs.Engaged.{Engaged}
use Rattle.odin_engine.proofs.StoreForLemmas.{edited_for, known_edited}
use Rattle.odin_engine.proofs.engine.Engine.remove.Goals as goal

pub returns-clause-ok : goal.returns-clause-ok
returns-clause-ok g c =
    let store = c.self.inside.store in
    let next = c.drop_source-dropped.new.self in
    let disk = c.args.disk.now in
    let after = c.drop_source-dropped.new.disk in
    subst (λ (e : Engaged). IfOk c.drop_source-dropped.result (HasDropped g.D.Disk.told c.args.name.now e.store next disk after)) c.self.view_is
    (IfOk-weaker c.drop_source-dropped.result _ _ (λ changed edits. c.edits_are_told.ensures.drop c.args.name.now store next disk after changed edits c.drop_source-dropped.ensures.any_moment) c.drop_source-dropped.ensures.drops)

pub returns-clause-err : goal.returns-clause-err
returns-clause-err g c =
    let store = c.self.inside.store in
    let next = c.drop_source-dropped.new.self in
    let disk = c.args.disk.now in
    let after = c.drop_source-dropped.new.disk in
    let change = drops c.args.name.now in
    subst (λ (e : Engaged). IfErr c.drop_source-dropped.result (HasFailed g.D.Disk.told change e.store next disk after)) c.self.view_is
    (fault_told c.drop_source-dropped.result (IsChangeFault (DropBatch c.args.name.now) change store) (HasFailed g.D.Disk.told change store next disk after) (IsSame store next disk after)
    c.drop_source-dropped.ensures.fault c.drop_source-dropped.ensures.same
    (λ e told same. c.edits_are_told.ensures.failed change store next disk after e told same c.drop_source-dropped.ensures.any_moment c.drop_source-dropped.ensures.begins))

pub returns-clause-knows : goal.returns-clause-knows
returns-clause-knows g c =
    let store = c.self.inside.store in
    let next = c.drop_source-dropped.new.self in
    let said = rw c.kept.ensures at c.records_fit.ensures.says in
    let says = rw c.kept-2.ensures at c.records_fit-2.ensures.says in
    subst (λ (e : Engaged). OnOk c.drop_source-dropped.result (StaysKnown e.store next)) c.self.view_is
    (IfOk-weaker c.drop_source-dropped.result _ _
    (λ changed edits. known_edited g.D.Disk.told _ _ _ store next c.args.disk.now c.drop_source-dropped.new.disk changed edits (λ held. refl) (λ held. refl)
    (λ nodes calls facts epoch. known_after_edit store next said says c.stamps_fit.ensures nodes calls facts epoch))
    c.drop_source-dropped.ensures.drops)

pub invariant_of-self : goal.invariant_of-self
invariant_of-self g c =
    let store = c.self.inside.store in
    let may = subst (λ (e : Engaged). StoreIsOpen e.store (g.D.Disk.size_of c.args.disk.now)) (sym c.self.view_is) c.requires in (
      c.self.invariant.0,
      c.self.invariant.1,
      c.self.invariant.2,
      edited_for c.self.inside.graph g.D.Disk.told _ _ _ store c.drop_source-dropped.new.self c.args.disk.now c.drop_source-dropped.new.disk _ c.drop_source-dropped.result (c.self.invariant.3 may.journal.fresh)
          c.drop_source-dropped.ensures.drops c.drop_source-dropped.ensures.same c.drop_source-dropped.ensures.left,
    )
