-- The least height at which a node has a result.
use Rattle.std.proofs.Common.{◌≡◌, ℕ, zero, suc, ◌≤◌, ◌<◌, ◌⊎◌, Bool, true, false, cond, inl, inr, sym, ap, ◌∙◌, subst, refl, arith, is_some}
use Rattle.std.specs.Prelude.{Option, Some, None, IsSome}
use Rattle.object_values.specs.declared.nodes.Node.{Node}
use Rattle.object_values.specs.declared.views.View.{View}
use Rattle.meaning_texts.specs.Limits.{height_limit}
use Rattle.meaning_texts.proofs.Lemmas.{some_or_none, some_is_none, value_of_some, same_some}
use Rattle.meaning_graph.specs.Graphs.{Graph}
use Rattle.meaning_derive.specs.Derive.{Sources, Outcomes, derive, HasHeight}
use Rattle.meaning_derive.proofs.Lemmas.{grows_to, nothing_at_zero}
use Rattle.derive_walk.specs.DerivedHeights.{least_height}
use Rattle.derive_walk.specs.Tables.{height_or}
use Rattle.derive_walk.specs.Worlds.{World}

-- a node has one height
pub one_height : (g : Graph) (s : Sources) (outcomes : Outcomes) (n : Node) (h k : ℕ) → HasHeight g s outcomes n h → HasHeight g s outcomes n k → h ≡ k
one_height g s outcomes n h k a b = by_order (order h k)
  where
    order : (h k : ℕ) → (h < k) ⊎ ((h ≡ k) ⊎ (k < h))
    order zero zero = inr (inl refl)
    order zero (suc k) = inl (omega arith)
    order (suc h) zero = inr (inr (omega arith))
    order (suc h) (suc k) = elim (order h k) [ inl q ↦ inl (omega (arith, q)) | inr q ↦ elim q [ inl e ↦ inr (inl (ap suc e)) | inr l ↦ inr (inr (omega (arith, l))) ] ]

    none_there : (j : ℕ) → IsSome (derive g s outcomes j n) → derive g s outcomes j n ≡ None → h ≡ k
    none_there j there none = let z : None ≡ Some (value_of_some (derive g s outcomes j n) there).0 = sym none ∙ (value_of_some (derive g s outcomes j n) there).1 in cc

    by_order : (h < k) ⊎ ((h ≡ k) ⊎ (k < h)) → h ≡ k
    by_order (inl q) = none_there h a.there (b.least h q)
    by_order (inr (inl e)) = e
    by_order (inr (inr q)) = none_there k b.there (a.least k q)

module _ (w : World) (n : Node) where
  abbrev at : ℕ → Option View
  at h = derive w.graph w.sources w.outcomes h n

  -- of a height and those below it
  least_below : (h : ℕ) → least_height w n (suc h) ≡ height_or (least_height w n h) (cond (is_some (at (suc h))) (Some (suc h)) None)
  unfolding least_height
  least_below h = refl

  least_zero : least_height w n zero ≡ None
  unfolding least_height
  least_zero = refl

  none_least_at : (h : ℕ) → least_height w n h ≡ None → at h ≡ None
  none_least_at zero none = elim (some_or_none (at zero)) [
    | inl v ↦ absurd (nothing_at_zero w.graph w.sources w.outcomes n v.0 v.1)
    | inr q ↦ q
  ]
  none_least_at (suc h) none = elim (some_or_none (at (suc h))) [
    | inl v ↦ by_below (some_or_none (least_height w n h)) v.0 v.1
    | inr q ↦ q
  ]
    where
      by_below : ((k : ℕ) × (least_height w n h ≡ Some k)) ⊎ (least_height w n h ≡ None) → (v : View) → at (suc h) ≡ Some v → at (suc h) ≡ None
      by_below (inl k) v e =
          some_is_none (least_height w n (suc h)) k.0 (least_below h ∙ ap (λ o. height_or o (cond (is_some (at (suc h))) (Some (suc h)) None)) k.1) none
      by_below (inr q) v e =
          some_is_none (least_height w n (suc h)) (suc h)
          (least_below h ∙ ap (λ o. height_or o (cond (is_some (at (suc h))) (Some (suc h)) None)) q ∙ ap (λ o. cond (is_some o) (Some (suc h)) None) e) none

  none_least : (h : ℕ) → least_height w n h ≡ None → (j : ℕ) → j ≤ h → at j ≡ None
  none_least h none j le = elim (some_or_none (at j)) [
    | inl v ↦ some_is_none (at h) v.0 (grows_to w.graph w.sources w.outcomes j h le n v.0 v.1) (none_least_at h none)
    | inr q ↦ q
  ]

  -- it is the node's height
  pub least_is : (h k : ℕ) → least_height w n h ≡ Some k → HasHeight w.graph w.sources w.outcomes n k × (k ≤ h)
  least_is zero k e = some_is_none (least_height w n zero) k e least_zero
  least_is (suc h) k e = by_below (least_is h) (some_or_none (least_height w n h))
    where
      by_top : (o : Option View) → at (suc h) ≡ o → least_height w n h ≡ None → cond (is_some o) (Some (suc h)) None ≡ Some k
          → HasHeight w.graph w.sources w.outcomes n k × (k ≤ suc h)
      by_top None is none q = cc
      by_top (Some v) is none q =
          let same : suc h ≡ k = same_some q in (
            subst (HasHeight w.graph w.sources w.outcomes n) same (record { there = ap is_some is; least = λ j less. none_least h none j (omega (arith, less)) }),
            omega (arith, same),
          )

      by_below : ((j : ℕ) → least_height w n h ≡ Some j → HasHeight w.graph w.sources w.outcomes n j × (j ≤ h))
          → ((j : ℕ) × (least_height w n h ≡ Some j)) ⊎ (least_height w n h ≡ None) → HasHeight w.graph w.sources w.outcomes n k × (k ≤ suc h)
      by_below more (inl j) =
          let below = more j.0 j.1 in
          let same : j.0 ≡ k = same_some (sym (least_below h ∙ ap (λ o. height_or o (cond (is_some (at (suc h))) (Some (suc h)) None)) j.1) ∙ e) in
          (subst (HasHeight w.graph w.sources w.outcomes n) same below.0, omega (arith, below.1, same))
      by_below more (inr none) =
          by_top (at (suc h)) refl none (sym (least_below h ∙ ap (λ o. height_or o (cond (is_some (at (suc h))) (Some (suc h)) None)) none) ∙ e)

  -- and it is told where there is one
  pub is_least : (h k : ℕ) → HasHeight w.graph w.sources w.outcomes n k → k ≤ h → least_height w n h ≡ Some k
  is_least h k has le = elim (some_or_none (least_height w n h)) [
    | inl j ↦ j.1 ∙ ap Some (one_height w.graph w.sources w.outcomes n j.0 k (least_is h j.0 j.1).0 has)
    | inr none ↦ (let v = value_of_some (at k) has.there in some_is_none (at k) v.0 v.1 (none_least h none k le))
  ]
