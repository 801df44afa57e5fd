-- The needs of a node, each of which was visited: by the results of the table they are the ones that they are by all results, and the node is one higher than the highest.
use Rattle.std.proofs.Common.{◌≡◌, ℕ, ◌+◌, ◌≤◌, ◌<◌, List, ◌⊎◌, inl, inr, sym, ap, ◌∙◌, subst, refl, arith}
use Rattle.std.specs.Prelude.{Some, None, option_map}
use Rattle.object_values.specs.declared.nodes.Node.{Node}
use Rattle.object_values.specs.declared.calls.Call.{Call}
use Rattle.meaning_texts.specs.Limits.{height_limit}
use Rattle.meaning_texts.specs.Lists.{IsIn}
use Rattle.meaning_texts.proofs.Lemmas.{some_or_none, value_of_some, some_is_none}
use Rattle.meaning_tasks.specs.Nodes.{Fits}
use Rattle.meaning_tasks.specs.Needs.{Grows}
use Rattle.meaning_tasks.specs.Laws.{AgreeAt, IsCarried}
use Rattle.meaning_tasks.proofs.Lemmas.{carry, one_list_of_needs}
use Rattle.meaning_derive.specs.Derive.{text_of, derive}
use Rattle.meaning_derive.specs.Calls.{Runs}
use Rattle.meaning_derive.proofs.Lemmas.{grows_to, none_by_need}
use Rattle.derive_walk.specs.declared.done.Done.{Done}
use Rattle.derive_walk.specs.Tables.{done_in, results_of, top_of}
use Rattle.derive_walk.specs.declared.walk.Walk.{Walk}
use Rattle.derive_walk.specs.Paths.{AreVisited}
use Rattle.derive_walk.specs.States.{heights_in, IsLowerNeed, NeedBelow, IsWaiting, HoldsIn}
use Rattle.derive_walk.specs.Worlds.{World, seen_in, IsNeedIn}
use Rattle.derive_walk.proofs.Tables.{done_or_waiting}
use Rattle.derive_walk.proofs.TopLemmas.{below_top, one_at_top}

module _ (w : World) (walk : Walk) (holds : HoldsIn w walk) where
  -- what is done is derived
  pub done_is_derived : (m : Node) (d : Done) → done_in walk.done m ≡ Some d → seen_in w m ≡ Some d.view
  done_is_derived m d e = let x = holds.done.each m d e in grows_to w.graph w.sources w.outcomes d.height height_limit x.high m d.view x.is

  pub table_grows : Grows (results_of walk.done) (seen_in w)
  table_grows m view e = elim (some_or_none (done_in walk.done m)) [
    | inl d ↦ done_is_derived m d.0 d.1 ∙ (sym (ap (option_map (λ (d : Done). d.view)) d.1) ∙ e)
    | inr none ↦ some_is_none (results_of walk.done m) view e (ap (option_map (λ (d : Done). d.view)) none)
  ]

  -- of a node that was visited the table has what is derived
  pub same_result : (m : Node) (k : ℕ) → heights_in walk m ≡ Some k → results_of walk.done m ≡ seen_in w m
  same_result m k e = elim (done_or_waiting walk.done walk.waiting m k e) [
    | inl d ↦ ap (option_map (λ (d : Done). d.view)) d.1 ∙ sym (done_is_derived m d.0 d.1)
    | inr q ↦ ap (option_map (λ (d : Done). d.view)) q.0 ∙ sym (holds.waiting m k q.1).none
  ]

  pub at_most_limit : (m : Node) (k : ℕ) → heights_in walk m ≡ Some k → k ≤ height_limit
  at_most_limit m k e = elim (done_or_waiting walk.done walk.waiting m k e) [
    | inl d ↦ subst (λ z. z ≤ height_limit) d.2 (holds.done.each m d.0 d.1).high
    | inr q ↦ (holds.waiting m k q.1).high
  ]

  module _ (n : Node) (needs : List Node) (visited : AreVisited w walk n needs) where
    pub agree : AgreeAt (results_of walk.done) (seen_in w) needs
    agree m i = let k = value_of_some (heights_in walk m) (visited.each m i) in same_result m k.0 k.1

    pub carried : IsCarried w.graph (text_of w.sources) n (results_of walk.done) (seen_in w) needs
    carried = carry w.graph (text_of w.sources) n (results_of walk.done) (seen_in w) needs visited.listed agree

    pub is_need : (m : Node) → IsIn m needs → IsNeedIn w n m
    is_need m i = record { needs = needs; listed = carried.needs; one = i }

    pub from_need : (m : Node) → IsNeedIn w n m → IsIn m needs
    from_need m need = subst (λ l. IsIn m l) (one_list_of_needs w.graph n (seen_in w) need.needs needs need.listed carried.needs) need.one

    pub lower_needs : (m : Node) → IsNeedIn w n m → IsLowerNeed (heights_in walk) m (top_of (heights_in walk) needs + 1)
    lower_needs m need =
        let i : IsIn m needs = from_need m need in
        let k = value_of_some (heights_in walk m) (visited.each m i) in
        let le : k.0 ≤ top_of (heights_in walk) needs = below_top (heights_in walk) needs m k.0 i k.1 in
        record { below = k.0; is = k.1; lower = omega (arith, le) }

    pub one_below : (top_of (heights_in walk) needs + 1 ≡ 1) ⊎ NeedBelow w (heights_in walk) n (top_of (heights_in walk) needs + 1)
    one_below = elim (one_at_top (heights_in walk) needs) [
      | inl z ↦ inl (ap (λ t. t + 1) z)
      | inr m ↦ inr (record { need = m.0; one = is_need m.0 m.1; below = top_of (heights_in walk) needs; is = m.2; next = refl })
    ]

    pub waits_at : Fits w.graph n → top_of (heights_in walk) needs < height_limit → seen_in w n ≡ None → (wanted : List Call) → ((c : Call) → Runs w.graph (seen_in w) n c → IsIn c wanted) → IsWaiting w (heights_in walk) wanted n (top_of (heights_in walk) needs + 1)
    waits_at fits low none wanted call = record { fits = fits; high = omega (arith, low); none = none; call = call; lower = lower_needs; tight = one_below }

    -- ---- where a need has no result

    module _ (m : Node) (i : IsIn m needs) (waits : done_in walk.done m ≡ None) where
      not_derived : seen_in w m ≡ None
      not_derived = sym (agree m i) ∙ ap (option_map (λ (d : Done). d.view)) waits

      not_below : derive w.graph w.sources w.outcomes 63 m ≡ None
      not_below = elim (some_or_none (derive w.graph w.sources w.outcomes 63 m)) [
        | inl v ↦ some_is_none (seen_in w m) v.0 (grows_to w.graph w.sources w.outcomes 63 height_limit (omega arith) m v.0 v.1) not_derived
        | inr none ↦ none
      ]

      pub none_there : seen_in w n ≡ None
      none_there = none_by_need w.graph w.sources w.outcomes 63 (omega arith) n m (is_need m i) not_below

      pub none_runs : (c : Call) → Runs w.graph (seen_in w) n c → ⊥
      none_runs c runs =
          let same : needs ≡ runs.needs = one_list_of_needs w.graph n (seen_in w) needs runs.needs carried.needs runs.listed in
          let v = value_of_some (seen_in w m) (runs.known m (subst (λ l. IsIn m l) same i)) in
          some_is_none (seen_in w m) v.0 v.1 not_derived
