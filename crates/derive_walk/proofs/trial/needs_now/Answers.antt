use Rattle.std.proofs.Common.{sym, subst, refl}
use Rattle.std.specs.Prelude.{Option}
use Rattle.object_values.specs.declared.views.Value.{Value}
use Rattle.derive_walk.specs.SeenNow.{IsSeenAgain}
use Rattle.derive_walk.proofs.SeenNowLemmas.{named_at, now_more, lacks_one}
use Rattle.derive_walk.proofs.trial.needs_now.Goals as goal

pub seen_now-requires : goal.seen_now-requires
seen_now-requires g c = named_at (g.K.Known.keeps c.args.known.now).contents c.args.deps.now c.requires c.loop-dep.dep-index c.dep-item.result c.loop-dep-test.true c.dep-item.is

pub loop-dep-preserved : goal.loop-dep-preserved
loop-dep-preserved g c =
    let contents = (g.K.Known.keeps c.args.known.now).contents in
    let done = c.args.done.now in
    let deps = c.args.deps.now in
    let dep = c.dep-item.result in
    now_more contents done deps c.loop-dep.dep-index dep c.loop-dep-test.true c.dep-item.is c.loop-dep.now.items _ c.loop-dep.invariant
    (record {
      node = refl;
      entry = c.in-Some.entry.now;
      is = sym c.in-Some.ensures;
      seen = subst (λ (value : Option Value). IsSeenAgain contents dep.seen value c.seen_now.result) c.as_ref.ensures.value c.seen_now.ensures;
      status = refl;
      messages = c.as_slice.ensures;
      height = refl;
    })
    c.push.new.self.items c.in_ok-push.ensures.items

pub returns-in_default-clause-lacks : goal.returns-in_default-clause-lacks
returns-in_default-clause-lacks g c =
    lacks_one (g.K.Known.keeps c.args.known.now).contents c.args.done.now c.args.deps.now c.loop-dep.dep-index c.dep-item.result c.loop-dep-test.true c.dep-item.is
    (sym c.in_default.ensures)
