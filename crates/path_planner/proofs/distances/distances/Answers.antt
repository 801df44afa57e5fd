-- Level by level, until no type is at the level.
use Rattle.std.proofs.Common.{◌≡◌, ◌∙◌, ◌<◌, length, sym, ap, subst, arith, replicate, rules}
use Rattle.std.specs.Prelude.{None}
use Rattle.std.proofs.lemmas.List.{length-replicate}
use Rattle.meaning_texts.specs.Lists.{IsIn}
use Rattle.meaning_graph.specs.Graphs.{types}
use Rattle.path_planner.specs.Near.{IsAllNear}
use Rattle.path_planner.proofs.NearLemmas.{first_within, first_level, in_none, none_farther, far_enough}
use Rattle.path_planner.proofs.distances.distances.Goals as goal
use Rattle.path_planner.proofs.distances.distances.Goals.{else-loop-level-test, then-loop-level-test+then-is_empty}

pub reach-requires : goal.reach-requires
reach-requires c =
    let made = c.in_ok-vec.ensures.items_if_clones_equal (λ y h. search rules) ∙ ap (λ n. replicate n None) c.type_count.ensures in
    let added = rw c.new-first.ensures at c.in_ok-add_below.ensures in
    λ number h. subst (λ n. number < n) (sym (ap length made ∙ length-replicate (length (types c.args.graph.now)) None)) (first_within c.args.graph.now c.args.to _ added number (subst (λ l. IsIn number l) c.as_slice.ensures h))

pub loop-level-init : goal.loop-level-init
loop-level-init c =
    let made = c.in_ok-vec.ensures.items_if_clones_equal (λ y h. search rules) ∙ ap (λ n. replicate n None) c.type_count.ensures in
    let added = rw c.new-first.ensures at c.in_ok-add_below.ensures in
    first_level c.args.graph.now c.args.to _ added _ _ (rw (c.as_slice.ensures, made, c.new.ensures.items) at c.in_ok-reach.ensures)

pub returns : goal.returns
returns c = subst (IsAllNear c.args.graph.now c.args.to) (sym c.into_near.ensures) (elim c.loop-level-test.branch [
  | else-loop-level-test w ↦ far_enough c.args.graph.now c.args.to c.loop-level.search.near.items c.loop-level.level (omega (arith, w.loop-level-test.false, c.loop-level.auto.level-end, c.type_count-level-end.ensures)) c.loop-level.invariant.0
  | then-loop-level-test+then-is_empty w ↦
      let empty : length c.loop-level.search.front.items ≡ 0 = search (rules, w.is_empty.ensures, w.if-is_empty.true) in
      none_farther c.args.graph.now c.args.to c.loop-level.search.near.items c.loop-level.level c.loop-level.invariant.0 (λ a h. in_none a _ empty (c.loop-level.invariant.1.has a h))
])
