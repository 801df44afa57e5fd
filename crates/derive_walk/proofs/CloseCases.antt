-- The last node of the path, once its needs were visited: it is too deep, or may be closed, or waits for a need.
use Rattle.std.proofs.Common.{◌≡◌, ℕ, ◌+◌, ◌≤◌, ◌<◌, true, false, List, [], ◌∷◌, ◌++◌, inl, inr, sym, ap, ◌∙◌, subst, refl, arith}
use Rattle.std.specs.Prelude.{Some, None}
use Rattle.object_values.specs.declared.nodes.Node.{Node}
use Rattle.meaning_texts.specs.Limits.{height_limit}
use Rattle.meaning_texts.specs.Lists.{IsIn}
use Rattle.meaning_texts.proofs.Lemmas.{value_of_some}
use Rattle.node_tasks.specs.declared.needed.Needed.{Needed}
use Rattle.node_tasks.specs.Needed.{IsNeeded}
use Rattle.derive_walk.specs.declared.survey.Survey.{Survey}
use Rattle.derive_walk.proofs.SurveyLemmas.{none_unvisited}
use Rattle.derive_walk.specs.Tables.{Waits, done_in, height_in, results_of, are_done, top_of}
use Rattle.derive_walk.specs.declared.walk.Walk.{Walk}
use Rattle.derive_walk.specs.Paths.{IsLast, IsClosing, IsTall, IsWholeRound, AreVisited}
use Rattle.derive_walk.specs.States.{heights_in, IsWaiting, IsFormedIn, HoldsIn}
use Rattle.derive_walk.specs.Worlds.{World}
use Rattle.derive_walk.proofs.Added.{holds_with_waiting}
use Rattle.derive_walk.proofs.ClosingLemmas.{last_fits, last_is_new}
use Rattle.derive_walk.proofs.FormedLemmas.{low_enough, formed_with_waiting}
use Rattle.derive_walk.proofs.NeedLemmas.{waits_at, none_there, none_runs}
use Rattle.derive_walk.proofs.Tables.{done_or_waiting}
use Rattle.derive_walk.proofs.TopLemmas.{one_at_top, one_not_done}

module _ (w : World) (walk : Walk) (n : Node) (needed : Needed) (survey : Survey) (whole : IsWholeRound w walk n needed survey) where
  pub whole_visited : AreVisited w walk n whole.surveyed.needs
  whole_visited = record {
    listed = whole.surveyed.listed;
    each = none_unvisited (heights_in walk) whole.surveyed.needs (sym (ap (λ (s : Survey). s.unvisited) whole.surveyed.is) ∙ whole.visited);
  }

  pub whole_top : survey.top ≡ top_of (heights_in walk) whole.surveyed.needs
  whole_top = ap (λ (s : Survey). s.top) whole.surveyed.is

  pub whole_done : survey.done ≡ are_done walk.done whole.surveyed.needs
  whole_done = ap (λ (s : Survey). s.done) whole.surveyed.is

module _ (w : World) (walk : Walk) (n : Node) (last : IsLast w walk n) (needs : List Node) (visited : AreVisited w walk n needs) where
  -- a need is as high as the limit
  pub is_tall : height_limit ≤ top_of (heights_in walk) needs → IsTall w walk
  is_tall high = elim (one_at_top (heights_in walk) needs) [
    | inl z ↦ absurd (omega (arith, z, high))
    | inr m ↦
        let le : top_of (heights_in walk) needs ≤ height_limit = low_enough w walk last.formed m.0 (top_of (heights_in walk) needs) m.2 in
        let same : top_of (heights_in walk) needs ≡ height_limit = omega (arith, le, high) in
        record { last = n; is = last; needs = needs; visited = visited; need = m.0; one = m.1; tall = m.2 ∙ ap (λ k. Some k) same }
  ]

  -- a need waits
  pub waiting_need : are_done walk.done needs ≡ false → (m : Node) × IsIn m needs × (done_in walk.done m ≡ None) × ((k : ℕ) × (height_in walk.waiting m ≡ Some k))
  waiting_need unfinished =
      let m = one_not_done walk.done needs unfinished in
      let k = value_of_some (heights_in walk m.0) (visited.each m.0 m.1) in
      elim (done_or_waiting walk.done walk.waiting m.0 k.0 k.1) [
        | inl d ↦ let z : None ≡ Some d.0 = sym m.2 ∙ d.1 in cc
        | inr q ↦ (m.0, m.1, m.2, (k.0, q.1))
      ]

  pub formed_waiting : (top : ℕ) → top < height_limit → (waiting : Waits) → waiting ≡ walk.waiting ++ (n, top + 1) ∷ []
      → IsFormedIn w (record walk { waiting = waiting })
  formed_waiting top low waiting same = formed_with_waiting w walk last.formed n (top + 1)
      (record { fits = last_fits w walk n last; low = omega arith; high = omega (arith, low) }) waiting same

  pub holds_waiting : HoldsIn w walk → are_done walk.done needs ≡ false → (top : ℕ) → top ≡ top_of (heights_in walk) needs → top < height_limit
      → (waiting : Waits) → waiting ≡ walk.waiting ++ (n, top + 1) ∷ [] → HoldsIn w (record walk { waiting = waiting })
  holds_waiting holds unfinished top at low waiting same =
      let m = waiting_need unfinished in
      let less : top_of (heights_in walk) needs < height_limit = omega (arith, at, low) in
      let waits = waits_at w walk holds n needs visited (last_fits w walk n last) less (none_there w walk holds n needs visited m.0 m.1 m.2) walk.wanted (λ c runs. absurd (none_runs w walk holds n needs visited m.0 m.1 m.2 c runs)) in
      holds_with_waiting w walk holds n (last_is_new w walk n last) (top + 1)
      (subst (λ t. IsWaiting w (heights_in walk) walk.wanted n (t + 1)) (sym at) waits)
      (holds.one m.0 m.3.0 m.3.1)
      waiting same
