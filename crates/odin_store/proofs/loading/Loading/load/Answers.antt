use Rattle.std.proofs.Common.{◌≡◌, ◌<◌, ◌∙◌, length, refl, arith}
use Rattle.std.proofs.lemmas.Grind.{common_steps}
use Rattle.std.proofs.lemmas.Bool.Decides.{nat_tests}
use Rattle.odin_store.specs.Loading.{state_of, StaysUnchecked, TakesItem, TakesNoItem}
use Rattle.odin_store.proofs.LoadLemmas.{none_loaded, one_loaded, item_ends, none_more, empty_unread}
use Rattle.odin_store.proofs.loading.Loading.load.Goals as goal

pub items-init : goal.items-init
items-init c = record {
  inside = omega arith;
  same = record { graph = refl; text = refl };
  gate = refl;
  loaded = λ past is. none_loaded c.args.payload.now c.args.self.now past is;
  unchecked = λ all. all;
  fit = c.requires;
}

pub returns-in_default-clause-unread : goal.returns-in_default-clause-unread
returns-in_default-clause-unread c =
    let inside : c.items.at < length c.args.payload.now = omega arith in
    let none : TakesNoItem c.args.payload.now c.items.at c.items.self = rw c.in_default.is at c.in_ok-end.ensures.none in
    λ answered. none_more c.args.payload.now c.items.at c.args.self.now c.items.self inside none c.items.invariant.loaded

pub items-preserved : goal.items-preserved
items-preserved c =
    let payload = c.args.payload.now in
    let now = c.items.self in
    let next = c.load_item.new.self in
    let end = c.in-Some.end in
    let inside : c.items.at < length payload = omega arith in
    let taken : TakesItem payload c.items.at end now next = rw c.in-Some.is at c.in_ok-end.ensures.some in
    let stays : StaysUnchecked now next = rw c.in-Some.is at c.in_ok-end.ensures.unchecked in
    record {
      inside = (item_ends payload c.items.at end now next taken).1;
      same = record { graph = c.load_item.ensures.same.graph ∙ c.items.invariant.same.graph; text = c.load_item.ensures.same.text ∙ c.items.invariant.same.text };
      gate = c.load_item.ensures.gate ∙ c.items.invariant.gate;
      loaded = λ past is. one_loaded c.reads_in_one_way.ensures payload c.items.at end c.args.self.now now next past c.items.invariant.gate inside taken (c.items.invariant.loaded past is);
      unchecked = λ all. stays (c.items.invariant.unchecked all);
      fit = rw c.in-Some.is at c.in_ok-end.ensures.fit;
    }

pub returns-clause-unread : goal.returns-clause-unread
returns-clause-unread c answered past is =
    let empty : length c.args.payload.now ≡ 0 = grind (arith, common_steps, nat_tests) in
    empty_unread (state_of c.args.self.now past) c.args.payload.now empty
