use Rattle.std.proofs.Common.{IsFalse, IsTrue, sym, subst, rules}
use Rattle.kept_tables.specs.Holdings.{Holding}
use Rattle.odin_store.specs.Stamps.{AreUnchecked}
use Rattle.odin_store.proofs.FittingLemmas.{item_may}
use Rattle.odin_store.proofs.PastLemmas.{given_refused, item_taken, refused_same}
use Rattle.odin_store.proofs.StampLemmas.{item_unchecked}
use Rattle.odin_store.proofs.loading.Loading.load_item.Goals as goal

pub take_in-requires : goal.take_in-requires
take_in-requires c =
    let loads = rw c.in-Some.is at c.in_ok-loaded.ensures.some in
    let has = rw c.in-Some.is at c.in_ok-loaded.ensures.records in
    item_may c.args.payload.now c.args.at c.in-Some.end c.in-Some.loaded c.args.self.now c.load_item.new.self loads has c.records_fit.ensures.says c.requires

pub returns-then-not-branch-clause-none : goal.returns-then-not-branch-clause-none
returns-then-not-branch-clause-none c =
    let loads = rw c.in-Some.is at c.in_ok-loaded.ensures.some in
    let answered : IsFalse c.in_ok-take_in.field-0 = search rules in
    given_refused c.args.payload.now c.args.at c.in-Some.end c.in-Some.loaded c.args.self.now c.load_item.new.self.tables loads
    (refused_same c.in-Some.loaded c.args.self.now c.load_item.new.self (c.in_ok-take_in.ensures.refused answered))

pub returns-clause-some : goal.returns-clause-some
returns-clause-some c =
    let loads = rw c.in-Some.is at c.in_ok-loaded.ensures.some in
    let answered : IsTrue c.in_ok-take_in.field-0 = search rules in
    item_taken c.args.payload.now c.args.at c.in-Some.end c.in-Some.loaded c.args.self.now c.take_in.new.self c.load_item.new.self loads c.take_in.ensures.kept
    (record { graph = c.take_in.ensures.same.graph; text = c.take_in.ensures.same.text }) (c.in_ok-take_in.ensures.taken answered)

pub returns-clause-unchecked : goal.returns-clause-unchecked
returns-clause-unchecked c =
    let has = rw c.in-Some.is at c.in_ok-loaded.ensures.records in
    λ all.
    subst (λ (k : Holding). AreUnchecked k.records.records) (sym c.take_in.ensures.kept)
    (item_unchecked c.args.payload.now c.args.at c.in-Some.end c.args.self.now.kept.records.records c.load_item.new.self.records.records has all)

pub returns-clause-fit : goal.returns-clause-fit
returns-clause-fit c =
    let answered : IsTrue c.in_ok-take_in.field-0 = search rules in
    c.in_ok-take_in.ensures.fit answered
