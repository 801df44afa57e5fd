-- Heights fall from a node to its needs.
use Rattle.std.proofs.Common.{◌≡◌, ℕ, zero, suc, ◌+◌, ◌≤◌, ◌<◌, List, ◌⊎◌, inl, inr, sym, ap, ◌∙◌, subst, refl, arith}
use Rattle.std.specs.Prelude.{Some, None, IsSome}
use Rattle.object_values.specs.declared.nodes.Node.{Node}
use Rattle.meaning_texts.specs.Limits.{height_limit}
use Rattle.meaning_texts.specs.Lists.{IsIn}
use Rattle.meaning_texts.proofs.Lemmas.{some_or_none, some_is_none, same_some, value_of_some}
use Rattle.meaning_graph.specs.Graphs.{Graph}
use Rattle.meaning_tasks.specs.Nodes.{Fits}
use Rattle.meaning_tasks.specs.Needs.{Results, Needs}
use Rattle.meaning_tasks.proofs.Lemmas.{carry, need_stays, one_list_of_needs}
use Rattle.meaning_derive.specs.Derive.{text_of, derive, HasHeight}
use Rattle.meaning_derive.specs.Chains.{IsNeed}
use Rattle.meaning_derive.specs.WalkLaws.{AreFalling}
use Rattle.meaning_derive.proofs.Lemmas.{grows_to, needs_at, needs_listed, nothing_at_zero, one_above}
use Rattle.meaning_derive.proofs.Lemmas.{needs_fit, map_at}
use Rattle.derive_walk.specs.DerivedHeights.{least_height, heights_or}
use Rattle.derive_walk.specs.Tables.{done_in, results_of, height_in, height_or}
use Rattle.derive_walk.specs.declared.walk.Walk.{Walk}
use Rattle.derive_walk.specs.Worlds.{World, IsWorld, seen_in, IsNeedIn}
use Rattle.derive_walk.specs.States.{heights_in, HoldsIn, NeedBelow}
use Rattle.derive_walk.proofs.Tables.{done_or_waiting}
use Rattle.derive_walk.proofs.LeastHeights.{one_height, least_is, is_least}
use Rattle.derive_walk.proofs.NeedLemmas.{table_grows, same_result}

-- ---- a need that is listed

pub in_listed : (g : Graph) (n m : Node) (seen : Results) (needs : List Node) → Needs g n seen needs → IsNeed g seen n m → IsIn m needs
in_listed g n m seen needs listed need = subst (λ l. IsIn m l) (one_list_of_needs g n seen need.needs needs need.listed listed) need.one

-- the needs of a node that fits, fit
pub need_fits : (w : World) → IsWorld w → (n m : Node) → Fits w.graph n → IsNeedIn w n m → Fits w.graph m
need_fits w is n m fits need =
    needs_fit w.graph is.spellable is.checked (seen_in w) (map_at w.graph is.checked w.sources is.sources w.outcomes is.fit height_limit) n fits need.needs need.listed m need.one

-- the needs of a node by all results
pub needs_in : World → Node → List Node
needs_in w n = needs_at w.graph w.sources w.outcomes height_limit n

pub needs_in_listed : (w : World) (n : Node) → Needs w.graph n (seen_in w) (needs_in w n)
unfolding needs_in
needs_in_listed w n = needs_listed w.graph w.sources w.outcomes height_limit n

-- ---- a walk that holds

module _ (w : World) (walk : Walk) (holds : HoldsIn w walk) where
  -- a need by the table is one by all results
  pub need_of : (n m : Node) (needs : List Node) → Needs w.graph n (results_of walk.done) needs → IsIn m needs → IsNeedIn w n m
  need_of n m needs listed i = record {
    needs = needs_in w n;
    listed = needs_in_listed w n;
    one = need_stays w.graph n (results_of walk.done) (seen_in w) needs (needs_in w n) (table_grows w walk holds) listed (needs_in_listed w n) m i;
  }

  -- where each need by all results was visited, they are the needs by the table
  pub listed_here : (n : Node) (needs : List Node) → Needs w.graph n (seen_in w) needs → ((m : Node) → IsIn m needs → IsSome (heights_in walk m)) → Needs w.graph n (results_of walk.done) needs
  listed_here n needs listed each =
      (carry w.graph (text_of w.sources) n (seen_in w) (results_of walk.done) needs listed (λ m i. let k = value_of_some (heights_in walk m) (each m i) in sym (same_result w walk holds m k.0 k.1))).needs

  -- ---- heights

  -- that of derivation, or that of a node that waits
  pub height_is : (n : Node) (k : ℕ) → heights_or w walk n ≡ Some k
      → (HasHeight w.graph w.sources w.outcomes n k × (k ≤ height_limit)) ⊎ ((done_in walk.done n ≡ None) × (height_in walk.waiting n ≡ Some k))
  height_is n k e = elim (some_or_none (heights_in walk n)) [
    | inl h ↦
        let same : h.0 ≡ k = same_some (sym (ap (λ o. height_or o (least_height w n height_limit)) h.1) ∙ e) in
        elim (done_or_waiting walk.done walk.waiting n k (h.1 ∙ ap Some same)) [
          | inl d ↦ (let is = holds.done.each n d.0 d.1 in
              inl (subst (HasHeight w.graph w.sources w.outcomes n) d.2 is.has, subst (λ z. z ≤ height_limit) d.2 is.high))
          | inr q ↦ inr q
        ]
    | inr none ↦ inl (least_is w n height_limit k (sym (ap (λ o. height_or o (least_height w n height_limit)) none) ∙ e))
  ]

  -- the tables are asked first
  pub in_tables : (n : Node) (k : ℕ) → heights_in walk n ≡ Some k → heights_or w walk n ≡ Some k
  in_tables n k e = ap (λ o. height_or o (least_height w n height_limit)) e

  -- what is derived has its height
  pub derived_at : (n : Node) (k : ℕ) → HasHeight w.graph w.sources w.outcomes n k → k ≤ height_limit → heights_or w walk n ≡ Some k
  derived_at n k has le = elim (some_or_none (heights_in walk n)) [
    | inl h ↦ elim (done_or_waiting walk.done walk.waiting n h.0 h.1) [
      | inl d ↦ in_tables n h.0 h.1 ∙ ap Some (sym d.2 ∙ one_height w.graph w.sources w.outcomes n d.0.height k (holds.done.each n d.0 d.1).has has)
      | inr q ↦ (let v = value_of_some (derive w.graph w.sources w.outcomes k n) has.there in
          some_is_none (seen_in w n) v.0 (grows_to w.graph w.sources w.outcomes k height_limit le n v.0 v.1) (holds.waiting n h.0 q.1).none)
    ]
    | inr none ↦ ap (λ o. height_or o (least_height w n height_limit)) none ∙ is_least w n height_limit k has le
  ]

  pub most_high : (n : Node) (k : ℕ) → heights_or w walk n ≡ Some k → k ≤ height_limit
  most_high n k e = elim (height_is n k e) [ inl r ↦ r.1 | inr q ↦ (holds.waiting n k q.1).high ]

  -- what is derived: one above the heights of its needs
  module _ (n : Node) (h : ℕ) (has : HasHeight w.graph w.sources w.outcomes n (suc h)) (le : suc h ≤ height_limit) where
    derived_falls : (m : Node) → IsNeedIn w n m → (j : ℕ) × (heights_or w walk m ≡ Some j) × (j < suc h)
    derived_falls m need =
        let r = (one_above w.graph w.sources w.outcomes n h has le).each m need in
        (r.0, derived_at m r.0 r.1 (omega (arith, le, r.2)), omega (arith, r.2))

    derived_tight : (suc h ≡ 1) ⊎ NeedBelow w (heights_or w walk) n (suc h)
    derived_tight = elim (one_above w.graph w.sources w.outcomes n h has le).one [
      | inl z ↦ inl (ap suc z)
      | inr m ↦ inr (record { need = m.0; one = m.1; below = h; is = derived_at m.0 h m.2 (omega (arith, le)); next = omega arith })
    ]

  above_zero : (n : Node) (k : ℕ) → HasHeight w.graph w.sources w.outcomes n k → (h : ℕ) × (k ≡ suc h)
  above_zero n zero has = let v = value_of_some (derive w.graph w.sources w.outcomes zero n) has.there in absurd (nothing_at_zero w.graph w.sources w.outcomes n v.0 v.1)
  above_zero n (suc h) has = (h, refl)

  pub falls : (n m : Node) (k : ℕ) → heights_or w walk n ≡ Some k → IsNeedIn w n m → (j : ℕ) × (heights_or w walk m ≡ Some j) × (j < k)
  falls n m k e need = elim (height_is n k e) [
    | inl r ↦
        let h = above_zero n k r.0 in
        let f = derived_falls n h.0 (subst (HasHeight w.graph w.sources w.outcomes n) h.1 r.0) (subst (λ z. z ≤ height_limit) h.1 r.1) m need in
        (f.0, f.1, omega (arith, f.2, h.1))
    | inr q ↦ (let r = (holds.waiting n k q.1).lower m need in (r.below, in_tables m r.below r.is, r.lower))
  ]

  pub tight : (n : Node) (k : ℕ) → heights_or w walk n ≡ Some k → (k ≡ 1) ⊎ NeedBelow w (heights_or w walk) n k
  tight n k e = elim (height_is n k e) [
    | inl r ↦
        let h = above_zero n k r.0 in
        subst (λ z. (z ≡ 1) ⊎ NeedBelow w (heights_or w walk) n z) (sym h.1)
        (derived_tight n h.0 (subst (HasHeight w.graph w.sources w.outcomes n) h.1 r.0) (subst (λ z. z ≤ height_limit) h.1 r.1))
    | inr q ↦ waits_tight (holds.waiting n k q.1).tight
  ]
    where
      waits_tight : (k ≡ 1) ⊎ NeedBelow w (heights_in walk) n k → (k ≡ 1) ⊎ NeedBelow w (heights_or w walk) n k
      waits_tight (inl z) = inl z
      waits_tight (inr b) = inr (record { need = b.need; one = b.one; below = b.below; is = in_tables b.need b.below b.is; next = b.next })

  pub low : (n : Node) (k : ℕ) → heights_or w walk n ≡ Some k → 0 < k
  low n k e = elim (tight n k e) [ inl q ↦ omega (arith, q) | inr b ↦ (let next : b.below + 1 ≡ k = b.next in omega (arith, next)) ]

  pub are_falling : AreFalling w.graph (seen_in w) (heights_or w walk)
  are_falling = record { low = low; falls = λ n m k e need. falls n m k e need }
