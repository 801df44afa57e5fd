use Rattle.std.proofs.Common.{◌+◌, length, inl, refl, ◌∙◌, subst, sym, rules}
use Rattle.object_values.specs.Texts.{Text}
use Rattle.meaning_graph.specs.Grammar.{GraphText}
use Rattle.odin_journal.specs.declared.fault.JournalFault.TheVariants as fault
use Rattle.odin_store.specs.Opening.{graph_record}
use Rattle.odin_store.proofs.Lemmas.{first_not_wasteful}
use Rattle.odin_engine.specs.Opened.{LeavesEngineOpening, IsEngineOpenFault}
use Rattle.kept_derive.proofs.Lemmas.{known_at_first}
use Rattle.odin_engine.proofs.StoreForLemmas.{settled_for, settled_unchecked}
use Rattle.odin_engine.proofs.EngineLemmas.{untouched_leaves, untouched_disk, handed, store_fault, settled_leaves, settled_opens, settled_fault, settled_epoch, stays_opened, stays_works, fails_works}
use Rattle.odin_engine.proofs.engine.Engine.open.Goals as goal

pub returns-in_err-plans-clause-any_moment : goal.returns-in_err-plans-clause-any_moment
returns-in_err-plans-clause-any_moment g c = LeavesEngineOpening.opening (untouched_leaves c.args.text.now (g.D.Disk.told c.args.disk.now) (λ image follows left. g.met.D.Disk.only_now c.args.disk.now image follows left))

pub returns-in_err-plans-clause-refused : goal.returns-in_err-plans-clause-refused
returns-in_err-plans-clause-refused g c =
    handed (IsEngineOpenFault g.D.Disk.told c.args.text.now c.args.disk.now c.args.disk.now) c.from_residual.result fault.Memory c.from_residual.ensures.1
    (inl (λ quiet. inl (untouched_disk (g.D.Disk.told c.args.disk.now) (λ image follows left. g.met.D.Disk.only_now c.args.disk.now image follows left) quiet)))

pub returns-in_err-store-clause-any_moment : goal.returns-in_err-store-clause-any_moment
returns-in_err-store-clause-any_moment g c = LeavesEngineOpening.opening c.open.ensures.any_moment

pub returns-in_err-store-clause-refused : goal.returns-in_err-store-clause-refused
returns-in_err-store-clause-refused g c =
    let e = c.in_err-store.field-0.0 in
    handed (IsEngineOpenFault g.D.Disk.told c.args.text.now c.args.disk.now c.open.new.disk) c.from_residual-in_err-store.result e c.from_residual-in_err-store.ensures.1
    (store_fault g.D.Disk.told c.args.text.now c.args.disk.now c.open.new.disk e c.in_err-store.ensures.refused)

pub returns-in_err-settle-clause-any_moment : goal.returns-in_err-settle-clause-any_moment
returns-in_err-settle-clause-any_moment g c =
    settled_leaves g.D.Disk.told c.args.text.now c.args.disk.now c.open.new.disk c.settle.new.disk c.in_ok-store.store c.in_ok-store.ensures.opened c.open.ensures.any_moment c.settle.ensures.any_moment

pub returns-in_err-settle-clause-refused : goal.returns-in_err-settle-clause-refused
returns-in_err-settle-clause-refused g c =
    let e = c.in_err-settle.field-0.0 in
    handed (IsEngineOpenFault g.D.Disk.told c.args.text.now c.args.disk.now c.settle.new.disk) c.from_residual-in_err-settle.result e c.from_residual-in_err-settle.ensures.1
    (settled_fault g.D.Disk.told c.args.text.now c.args.disk.now c.open.new.disk c.settle.new.disk c.in_ok-store.store e c.in_ok-store.ensures.opened c.in_err-settle.ensures.err)

pub returns-in_err-settle-clause-works : goal.returns-in_err-settle-clause-works
returns-in_err-settle-clause-works g c = λ zero.
    let text = c.args.text.now in
    let first = c.in_ok-store.store in
    fails_works g.D.Disk.told text c.args.disk.now c.open.new.disk c.settle.new.disk first c.in_err-settle.field-0.0 (72 + length (graph_record text)) 20
    (λ wasteful. first_not_wasteful text first c.in_ok-store.ensures.first.opened.graph_is (c.in_ok-store.ensures.first.empty zero) wasteful) c.in_err-settle.ensures.err (c.open.ensures.works zero)

pub returns-clause-opened : goal.returns-clause-opened
returns-clause-opened g c =
    settled_opens g.D.Disk.told c.args.text.now c.args.disk.now c.open.new.disk c.settle.new.disk c.in_ok-store.store c.settle.new.store c.in_ok-store.ensures.opened c.open.ensures.any_moment c.in_ok-settle.ensures.ok

pub returns-clause-new : goal.returns-clause-new
returns-clause-new g c = record {
  graph_is = refl;
  jobs_is = refl;
  first = settled_epoch g.D.Disk.told c.args.text.now c.args.disk.now c.open.new.disk c.settle.new.disk c.in_ok-store.store c.settle.new.store c.in_ok-settle.ensures.ok ∙ c.in_ok-store.ensures.first.opened.first;
  ready = c.in_ok-settle.ensures.ready;
  knows = known_at_first c.args.graph c.settle.new.store (rw c.kept.ensures at c.records_fit.ensures.says)
      (settled_unchecked g.D.Disk.told c.in_ok-store.store c.settle.new.store c.open.new.disk c.settle.new.disk c.in_ok-settle.ensures.ok c.in_ok-store.ensures.first.opened.unchecked);
}

pub invariant_of-result : goal.invariant_of-result
invariant_of-result g c =
    let first = c.in_ok-store.store in
    let spelled = subst (λ (text : Text). GraphText text c.args.graph) (sym c.in_ok-store.ensures.first.opened.graph_is) c.requires.read.spelled in (
      search rules,
      search rules,
      c.requires.limit,
      settled_for c.args.graph g.D.Disk.told first c.settle.new.store c.open.new.disk c.settle.new.disk c.in_ok-settle.ensures.ok spelled,
    )

pub returns-clause-any_moment : goal.returns-clause-any_moment
returns-clause-any_moment g c =
    settled_leaves g.D.Disk.told c.args.text.now c.args.disk.now c.open.new.disk c.settle.new.disk c.in_ok-store.store c.in_ok-store.ensures.opened c.open.ensures.any_moment c.settle.ensures.any_moment

pub returns-clause-empty : goal.returns-clause-empty
returns-clause-empty g c = λ zero.
    let text = c.args.text.now in
    let first = c.in_ok-store.store in
    stays_opened g.D.Disk.told text c.args.disk.now c.open.new.disk c.settle.new.disk first c.settle.new.store
    (λ wasteful. first_not_wasteful text first c.in_ok-store.ensures.first.opened.graph_is (c.in_ok-store.ensures.first.empty zero) wasteful) c.in_ok-store.ensures.opened c.in_ok-settle.ensures.ok

pub returns-clause-works : goal.returns-clause-works
returns-clause-works g c = λ zero.
    let text = c.args.text.now in
    let first = c.in_ok-store.store in
    stays_works g.D.Disk.told text c.args.disk.now c.open.new.disk c.settle.new.disk first c.settle.new.store (72 + length (graph_record text)) 20
    (λ wasteful. first_not_wasteful text first c.in_ok-store.ensures.first.opened.graph_is (c.in_ok-store.ensures.first.empty zero) wasteful) c.in_ok-settle.ensures.ok (c.open.ensures.works zero)
