use Rattle.std.proofs.Common.{◌≡◌, inr, [], Some, IsTrue, IsFalse, ap, ◌∙◌, arith, rules}
use Rattle.std.proofs.lemmas.Grind.{common_steps}
use mathlib.Core.List.{reverse}
use Rattle.odin_store.specs.Loading.{LoadsNot, TellsUnfit, Past, IsPast}
use Rattle.odin_store.proofs.RecordLemmas.{none_loaded, more_loaded, all_unfit, breaks_there}
use Rattle.odin_store.proofs.loading.load_records.Goals as goal

pub records-init : goal.records-init
records-init c =
    none_loaded c.args.graph.now c.args.text.now c.args.start c.args.records c.reverse.new.self.items c.new-loading.result (c.reverse.ensures.items ∙ ap reverse c.into_vec-left.ensures)
    c.new-loading.ensures.graph c.new-loading.ensures.text c.new-loading.ensures.nothing c.new-loading.ensures.past c.new-loading.ensures.gate c.new-loading.ensures.unchecked c.new-loading.ensures.fit

pub returns-then-not-branch-clause-fault : goal.returns-then-not-branch-clause-fault
returns-then-not-branch-clause-fault c =
    let now = c.records.loading in
    let payload = c.in-Some.payload in
    let last = rw c.in-Some.is at c.pop.ensures.items in
    let answered : IsFalse c.in_ok-load.field-0 = search rules in
    let unread : LoadsNot payload now = c.in_ok-load.ensures.unread answered in
    rw c.unwrap_or.ensures
    (breaks_there c.args.graph.now c.args.text.now c.args.start c.args.records c.records.left.items now c.records.invariant c.pop.new.self.items payload c.unfit-unfit.result last unread c.unfit-unfit.ensures)

pub records-preserved : goal.records-preserved
records-preserved c =
    let now = c.records.loading in
    let next = c.load.new.self in
    let payload = c.in-Some.payload in
    let last = rw c.in-Some.is at c.pop.ensures.items in
    let answered : IsTrue c.in_ok-load.field-0 = search rules in
    more_loaded c.args.graph.now c.args.text.now c.args.start c.args.records c.records.left.items now c.records.invariant c.pop.new.self.items payload next last c.load.ensures.same (c.in_ok-load.ensures.gate answered) (c.in_ok-load.ensures.read answered) (c.in_ok-load.ensures.unchecked answered) (c.in_ok-load.ensures.fit answered)

pub returns-in-Some-unfit-clause-fault : goal.returns-in-Some-unfit-clause-fault
returns-in-Some-unfit-clause-fault c =
    let now = c.records.loading in
    let at = c.in-Some-unfit.at in
    let none : c.records.left.items ≡ [] = grind (arith, common_steps) in
    let told : (past : Past) → IsPast now past → TellsUnfit now (Some at) past = rw c.in-Some-unfit.is at c.unfit.ensures in
    inr (all_unfit c.args.graph.now c.args.text.now c.args.start c.args.records c.records.left.items now c.records.invariant at none told)
