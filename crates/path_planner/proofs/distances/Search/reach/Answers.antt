-- Type by type.
use Rattle.std.proofs.Common.{◌∙◌, ◌<◌, ◌+◌, ◌++◌, ◌∷◌, [], length, slice_index_or, take, set, not, sym, ap, subst, arith}
use Rattle.std.specs.Prelude.{Some}
use Rattle.std.proofs.lemmas.List.{take_more}
use Rattle.path_planner.specs.Near.{Reaches}
use Rattle.path_planner.proofs.NearLemmas.{in_at, read_default, none_of, some_of, reach_known, reach_new}
use Rattle.path_planner.proofs.distances.Search.reach.Goals as goal
use Rattle.path_planner.proofs.distances.Search.reach.Goals.{then-is_none+in_ok-push, else-is_none}

pub index-requires : goal.index-requires
index-requires c = let h = c.requires (slice_index_or c.args.numbers.now c.loop-number.number-index 0) (in_at c.args.numbers.now c.loop-number.number-index 0 c.loop-number-test.true) in omega (arith, h, c.loop-number.invariant.sized)

pub index_mut-requires : goal.index_mut-requires
index_mut-requires c = let h = c.requires (slice_index_or c.args.numbers.now c.loop-number.number-index 0) (in_at c.args.numbers.now c.loop-number.number-index 0 c.loop-number-test.true) in omega (arith, h, c.loop-number.invariant.sized)

pub loop-number-preserved : goal.loop-number-preserved
loop-number-preserved c =
    let b = slice_index_or c.args.numbers.now c.loop-number.number-index 0 in
    let near = c.loop-number.self.near.items in
    let front = c.loop-number.self.front.items in
    let old = c.args.self.now.near.items in
    let first = c.args.self.now.front.items in
    let numbers = take c.loop-number.number-index c.args.numbers.now in
    let so_far = c.loop-number.invariant in
    let below : b < length near = subst (λ n. b < n) (sym so_far.sized) (c.requires b (in_at c.args.numbers.now c.loop-number.number-index 0 c.loop-number-test.true)) in
    let more = take_more c.args.numbers.now c.loop-number.number-index 0 c.loop-number-test.true in
    let read = read_default near b c.index.result.now below c.index.ensures in
    elim c.if-is_none.branch [
      | then-is_none+in_ok-push w ↦
          let none = read ∙ none_of c.index.result.now (c.is_none.ensures ∙ ap not w.if-is_none.true) in
          let next = reach_new c.args.distance numbers old first near front so_far b none below in
          subst (λ self. Reaches c.args.distance (take (c.loop-number.number-index + 1) c.args.numbers.now) old first self.near.items self.front.items) (sym w.self-is)
          (subst (λ l. Reaches c.args.distance l old first (set near b (Some c.args.distance)) w.push.new.self.items) (sym more)
          (subst (λ l. Reaches c.args.distance (numbers ++ b ∷ []) old first (set near b (Some c.args.distance)) l) (sym w.in_ok-push.ensures.items) next))
      | else-is_none w ↦
          let known = some_of c.index.result.now (c.is_none.ensures ∙ ap not w.if-is_none.false) in
          let next = reach_known c.args.distance numbers old first near front so_far b known.0 (read ∙ known.1) in
          subst (λ self. Reaches c.args.distance (take (c.loop-number.number-index + 1) c.args.numbers.now) old first self.near.items self.front.items) (sym w.self-is)
          (subst (λ l. Reaches c.args.distance l old first near front) (sym more) next)
    ]
