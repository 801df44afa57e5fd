-- Each type in front is looked at.
use Rattle.std.proofs.Common.{◌∙◌, ◌<◌, ◌≤◌, length, slice_index_or, sym, subst, arith}
use Rattle.std.proofs.lemmas.List.{take_more}
use Rattle.meaning_texts.specs.Lists.{IsIn}
use Rattle.path_planner.specs.Near.{IsBetween}
use Rattle.path_planner.proofs.NearLemmas.{in_at, take_all, front_within, looked_at, ends_level}
use Rattle.path_planner.proofs.SourceLemmas.{lead_at}
use Rattle.path_planner.proofs.distances.Search.widen.Goals as goal

pub bounds-sources-number : goal.bounds-sources-number
bounds-sources-number c =
    let front = rw c.replace-front.ensures.value at c.deref-number-items.ensures.value in
    let b = slice_index_or c.deref-number-items.result.now c.loop-number.number-index 0 in
    let there = subst (λ l. IsIn b l) front (in_at c.deref-number-items.result.now c.loop-number.number-index 0 c.loop-number-test.true) in
    let below = front_within c.args.graph.now c.requires.at.0 c.args.level _ _ c.requires.at.1 b there in
    omega (arith, below, c.requires.sources.sized)

pub overflow_add-level : goal.overflow_add-level
overflow_add-level c = omega (arith, c.requires.small)

pub reach-requires : goal.reach-requires
reach-requires c =
    let front = rw c.replace-front.ensures.value at c.deref-number-items.ensures.value in
    let b = slice_index_or c.deref-number-items.result.now c.loop-number.number-index 0 in
    let there = subst (λ l. IsIn b l) front (in_at c.deref-number-items.result.now c.loop-number.number-index 0 c.loop-number-test.true) in
    let below = front_within c.args.graph.now c.requires.at.0 c.args.level _ _ c.requires.at.1 b there in
    let lead = lead_at c.args.graph.now c.args.sources.now b c.index-sources-number.result c.requires.sources below c.index-sources-number.is in
    λ number h. subst (λ n. number < n) (sym c.loop-number.invariant.0) (lead.sound number (subst (λ l. IsIn number l) c.as_slice.ensures h)).0

pub loop-number-preserved : goal.loop-number-preserved
loop-number-preserved c =
    let front = rw c.replace-front.ensures.value at c.deref-number-items.ensures.value in
    let b = slice_index_or c.deref-number-items.result.now c.loop-number.number-index 0 in
    let there = subst (λ l. IsIn b l) front (in_at c.deref-number-items.result.now c.loop-number.number-index 0 c.loop-number-test.true) in
    let below = front_within c.args.graph.now c.requires.at.0 c.args.level _ _ c.requires.at.1 b there in
    let lead = lead_at c.args.graph.now c.args.sources.now b c.index-sources-number.result c.requires.sources below c.index-sources-number.is in
    let more = take_more c.deref-number-items.result.now c.loop-number.number-index 0 c.loop-number-test.true in
    let reached = rw c.as_slice.ensures at c.in_ok-reach.ensures in (
      reached.sized ∙ c.loop-number.invariant.0,
      λ to at. subst (λ l. IsBetween c.args.graph.now to c.args.level c.args.self.now.front.items l c.reach.new.self.near.items c.reach.new.self.front.items) (sym more)
          (looked_at c.args.graph.now to c.args.level c.args.self.now.front.items _ _ _ (c.loop-number.invariant.1 to at) b there c.index-sources-number.result lead _ _ reached),
    )

pub returns : goal.returns
returns c = λ to at.
    let front = rw c.replace-front.ensures.value at c.deref-number-items.ensures.value in
    let all : length c.deref-number-items.result.now ≤ c.loop-number.number-index = omega (arith, c.loop-number-test.false) in
    ends_level c.args.graph.now to c.args.level c.args.self.now.front.items c.loop-number.self.near.items c.loop-number.self.front.items
    (subst (λ l. IsBetween c.args.graph.now to c.args.level c.args.self.now.front.items l c.loop-number.self.near.items c.loop-number.self.front.items) (take_all c.deref-number-items.result.now c.loop-number.number-index all ∙ front) (c.loop-number.invariant.1 to at))
