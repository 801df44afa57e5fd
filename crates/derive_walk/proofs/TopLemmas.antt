-- Needs that are done, and the greatest height of nodes.
use Rattle.std.proofs.Common.{◌≡◌, ℕ, zero, suc, ◌≤◌, ◌<◌, true, false, cond, max, List, [], ◌∷◌, ◌⊎◌, inl, inr, sym, ap, ◌∙◌, subst, refl, arith, is_some}
use Rattle.std.specs.Prelude.{Option, Some, None}
use Rattle.object_values.specs.declared.nodes.Node.{Node}
use Rattle.meaning_texts.specs.Lists.{IsIn}
use Rattle.meaning_texts.proofs.Lemmas.{some_or_none}
use Rattle.derive_walk.specs.declared.done.Done.{Done}
use Rattle.derive_walk.specs.Tables.{Entries, done_in, are_done, height_or_zero, top_of}

-- ---- needs that are done

pub each_done : (done : Entries) (ns : List Node) → are_done done ns ≡ true → (m : Node) → IsIn m ns → (d : Done) × (done_in done m ≡ Some d)
each_done done [] h m i = absurd i
each_done done (n ∷ ns) h m (inl e) = elim (some_or_none (done_in done n)) [
  | inl d ↦ (d.0, subst (λ z. done_in done z ≡ Some d.0) (sym e) d.1)
  | inr q ↦ let z : cond (is_some (done_in done n)) (are_done done ns) false ≡ false = ap (λ o. cond (is_some o) (are_done done ns) false) q in cc
]
each_done done (n ∷ ns) h m (inr i) = elim (some_or_none (done_in done n)) [
  | inl d ↦ each_done done ns (sym (ap (λ o. cond (is_some o) (are_done done ns) false) d.1) ∙ h) m i
  | inr q ↦ let z : cond (is_some (done_in done n)) (are_done done ns) false ≡ false = ap (λ o. cond (is_some o) (are_done done ns) false) q in cc
]

pub one_not_done : (done : Entries) (ns : List Node) → are_done done ns ≡ false → (m : Node) × IsIn m ns × (done_in done m ≡ None)
one_not_done done [] h = cc
one_not_done done (n ∷ ns) h = elim (some_or_none (done_in done n)) [
  | inl d ↦ let r = one_not_done done ns (sym (ap (λ o. cond (is_some o) (are_done done ns) false) d.1) ∙ h) in (r.0, inr r.1, r.2)
  | inr q ↦ (n, inl refl, q)
]

-- ---- the greatest height

pub below_top : (heights : Node → Option ℕ) (ns : List Node) (m : Node) (k : ℕ) → IsIn m ns → heights m ≡ Some k → k ≤ top_of heights ns
below_top heights [] m k i e = absurd i
below_top heights (n ∷ ns) m k (inl q) e = let z : height_or_zero (heights n) ≡ k = ap (λ x. height_or_zero (heights x)) (sym q) ∙ ap height_or_zero e in omega (arith, z)
below_top heights (n ∷ ns) m k (inr i) e = let z = below_top heights ns m k i e in omega (arith, z)

nat_or : (a b : ℕ) → (a ≤ b) ⊎ (b < a)
nat_or zero b = inl (omega arith)
nat_or (suc a) zero = inr (omega arith)
nat_or (suc a) (suc b) = elim (nat_or a b) [ inl q ↦ inl (omega (arith, q)) | inr q ↦ inr (omega (arith, q)) ]

-- one of the nodes has the greatest height, if it isn't 0
pub one_at_top : (heights : Node → Option ℕ) (ns : List Node) → (top_of heights ns ≡ 0) ⊎ ((m : Node) × IsIn m ns × (heights m ≡ Some (top_of heights ns)))
one_at_top heights [] = inl refl
one_at_top heights (n ∷ ns) = by (heights n) refl (one_at_top heights ns)
  where
    by : (o : Option ℕ) → heights n ≡ o → (top_of heights ns ≡ 0) ⊎ ((m : Node) × IsIn m ns × (heights m ≡ Some (top_of heights ns))) → (top_of heights (n ∷ ns) ≡ 0) ⊎ ((m : Node) × IsIn m (n ∷ ns) × (heights m ≡ Some (top_of heights (n ∷ ns))))
    by None e (inl z) = let t : max 0 (top_of heights ns) ≡ top_of heights ns = omega arith in inl (ap (λ o. max (height_or_zero o) (top_of heights ns)) e ∙ t ∙ z)
    by None e (inr m) = let t : max 0 (top_of heights ns) ≡ top_of heights ns = omega arith in inr (m.0, inr m.1, m.2 ∙ ap (λ z. Some z) (sym (ap (λ o. max (height_or_zero o) (top_of heights ns)) e ∙ t)))
    by (Some k) e (inl z) = inr (n, inl refl, e ∙ ap (λ z. Some z) (sym (ap (λ o. max (height_or_zero o) (top_of heights ns)) e ∙ (let q : max k (top_of heights ns) ≡ k = omega (arith, z) in q))))
    by (Some k) e (inr m) = choose k e m (nat_or k (top_of heights ns))
      where
        choose : (k : ℕ) → heights n ≡ Some k → ((m : Node) × IsIn m ns × (heights m ≡ Some (top_of heights ns))) → (k ≤ top_of heights ns) ⊎ (top_of heights ns < k) → (top_of heights (n ∷ ns) ≡ 0) ⊎ ((m : Node) × IsIn m (n ∷ ns) × (heights m ≡ Some (top_of heights (n ∷ ns))))
        choose k e m (inl q) = inr (m.0, inr m.1, m.2 ∙ ap (λ z. Some z) (let t : top_of heights ns ≡ max k (top_of heights ns) = omega (arith, q) in t ∙ sym (ap (λ o. max (height_or_zero o) (top_of heights ns)) e)))
        choose k e m (inr q) = inr (n, inl refl, e ∙ ap (λ z. Some z) (let t : k ≡ max k (top_of heights ns) = omega (arith, q) in t ∙ sym (ap (λ o. max (height_or_zero o) (top_of heights ns)) e)))
