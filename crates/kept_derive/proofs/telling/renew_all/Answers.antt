-- Each of the records that are left may still be renewed after one is.
use Rattle.std.proofs.Common.{inl, inr, refl, sym, ap, subst, ◌∙◌}
use Rattle.std.specs.Vec.Iter.{into_iter_items}
use Rattle.meaning_texts.specs.Lists.{IsIn}
use Rattle.kept_records.specs.Records.{renew_record}
use Rattle.kept_derive.specs.Noting.{MayRenewEach, renew_records}
use Rattle.kept_derive.proofs.NotedLemmas.{renewed_may}
use Rattle.kept_derive.proofs.telling.renew_all.Goals as goal

pub loop-one-init : goal.loop-one-init
loop-one-init c =
    let all = c.into_iter-one-iterator.ensures.into_iter_gives.0 ∙ c.into_vec-one-items.ensures in (
      tt,
      tt,
      subst (MayRenewEach c.args.store.now.kept) (sym all) c.requires,
      record { journal = refl; tables = refl; sources = refl; graph = refl; epoch = refl },
      ap (λ l. renew_records c.args.store.now.epoch l c.args.store.now.kept.records.records) all,
    )

pub renew-requires : goal.renew-requires
renew-requires c = c.loop-one.invariant.2 c.in-Some.one (subst (IsIn c.in-Some.one) (sym c.in-Some.ensures.steps.0) (inl refl))

pub loop-one-preserved : goal.loop-one-preserved
loop-one-preserved c =
    let items = c.in-Some.ensures.steps.0 in
    let before = c.loop-one.invariant in
    let one = c.in-Some.one in
    let same = c.renew.ensures.same in
    let epoch = c.args.store.now.epoch in (
      tt,
      tt,
      λ r i. renewed_may c.loop-one.store.kept c.renew.new.self.kept r.node one.node r.present one.present c.loop-one.store.epoch c.renew.ensures.renewed
          (before.2 r (subst (IsIn r) (sym items) (inr i))),
      record {
        journal = same.journal ∙ before.3.journal;
        tables = same.tables ∙ before.3.tables;
        sources = same.sources ∙ before.3.sources;
        graph = same.graph ∙ before.3.graph;
        epoch = same.epoch ∙ before.3.epoch;
      },
      ap (renew_records epoch (into_iter_items c.next.new.self)) (c.renew.ensures.renewed
          ∙ ap (λ e. renew_record one.node one.present e c.loop-one.store.kept.records.records) before.3.epoch)
          ∙ sym (ap (λ l. renew_records epoch l c.loop-one.store.kept.records.records) items) ∙ before.4,
    )
