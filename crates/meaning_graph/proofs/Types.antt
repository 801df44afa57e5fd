-- The computed test of types holds exactly where supertypes lead from the one to the other.
use Rattle.std.proofs.Common.{◌≡◌, ℕ, zero, suc, ◌≤◌, ◌<◌, true, List, [], ◌∷◌, ◌⊎◌, inl, inr, sym, ap, subst, refl, length, arith, slice_get, map, nat_eq}
use Rattle.std.specs.Prelude.{Option, Some, None}
use Rattle.std.specs.List.{list_any}
use Rattle.std.proofs.lemmas.Bool.Decides.{Decides-eqb}
use Rattle.std.proofs.lemmas.Option.{slice_get_within}
use Rattle.object_values.specs.declared.graph.TypeDecl.{TypeDecl}
use Rattle.meaning_texts.specs.Lists.{IsIn}
use Rattle.meaning_graph.specs.Graphs.{Graph, types}
use Rattle.meaning_graph.specs.Types.{supers, supers_of, IsA, itself, by_super, is_a_within, is_a}
use Rattle.meaning_graph.specs.Routes.{Edges}
use Rattle.std.proofs.lemmas.Bool.{or_cases, or_left, or_right}
use Rattle.meaning_texts.proofs.Lemmas.{in_map, from_map, one_passes, passes_one}
use Rattle.meaning_graph.proofs.Routes.{Route, short_route}

-- the numbers below n
abbrev pub below : ℕ → List ℕ
below zero = []
below (suc n) = n ∷ below n

pub length-below : (n : ℕ) → length (below n) ≡ n
length-below zero = refl
length-below (suc n) = omega (arith, length-below n)

less_or_not : (a n : ℕ) → (a < n) ⊎ (n ≤ a)
less_or_not zero zero = inr (omega arith)
less_or_not zero (suc n) = inl (omega arith)
less_or_not (suc a) zero = inr (omega arith)
less_or_not (suc a) (suc n) = elim (less_or_not a n) [ inl k ↦ inl (omega (arith, k)) | inr k ↦ inr (omega (arith, k)) ]

pub in_below : (n a : ℕ) → a < n → IsIn a (below n)
in_below zero a h = absurd (omega (arith, h))
in_below (suc n) a h = elim (less_or_not a n) [ inl l ↦ inr (in_below n a l) | inr k ↦ inl (omega (arith, h, k)) ]

module _ (g : Graph) where
  -- the types that are declared
  abbrev pub numbers : List ℕ
  numbers = below (length (types g))

  has_supers : (a b : ℕ) (o : Option TypeDecl) → slice_get (types g) a ≡ o → IsIn b (supers_of g o) → IsIn a numbers
  has_supers a b None e h = absurd h
  has_supers a b (Some t) e h = in_below (length (types g)) a (slice_get_within (types g) a t e)

  pub super_numbered : (a b : ℕ) → IsIn b (supers g a) → IsIn a numbers
  super_numbered a b h = has_supers a b (slice_get (types g) a) refl h

  -- supertypes as edges of one label
  abbrev super_edges : Edges ℕ
  super_edges a = map (λ b. (0, b)) (supers g a)

  edge_numbered : (a : ℕ) (e : ℕ × ℕ) → IsIn e (super_edges a) → IsIn a numbers
  edge_numbered a e h = let r = from_map (λ b. (0, b)) e (supers g a) h in super_numbered a r.0 r.1

  edge_super : (a k c : ℕ) → IsIn (k, c) (super_edges a) → IsIn c (supers g a)
  edge_super a k c h = let r = from_map (λ b. (0, b)) (k, c) (supers g a) h in subst (λ z. IsIn z (supers g a)) (sym (ap (λ (z : ℕ × ℕ). z.1) r.2)) r.1

  route_of : (a c : ℕ) → IsA g a c → (q : List ℕ) × Route super_edges (λ b. nat_eq b c) a q
  route_of a c (itself b) = ([], (Decides-eqb b b).1 refl)
  route_of a c (by_super b d e h r) = let i = route_of d e r in (0 ∷ i.0, (d, in_map (λ z. (0, z)) d (supers g b) h, i.1))

  within_of : (n : ℕ) (q : List ℕ) (a c : ℕ) → length q ≤ n → Route super_edges (λ b. nat_eq b c) a q → is_a_within g n c a ≡ true
  within_of zero [] a c few r = r
  within_of (suc n) [] a c few r = or_left (nat_eq a c) _ r
  within_of zero (k ∷ q) a c few r = absurd (omega (arith, few))
  within_of (suc n) (k ∷ q) a c few r = or_right (nat_eq a c) _ (passes_one (is_a_within g n c) r.0 (supers g a) (edge_super a k r.0 r.1) (within_of n q r.0 c (omega (arith, few)) r.2))

  of_within : (n a c : ℕ) → is_a_within g n c a ≡ true → IsA g a c
  of_within zero a c h = subst (λ z. IsA g a z) ((Decides-eqb a c).0 h) (itself a)
  of_within (suc n) a c h = elim (or_cases (nat_eq a c) (list_any (is_a_within g n c) (supers g a)) h) [
    | inl e ↦ subst (λ z. IsA g a z) ((Decides-eqb a c).0 e) (itself a)
    | inr k ↦ let r = one_passes (is_a_within g n c) (supers g a) k in by_super a r.0 c r.1 (of_within n r.0 c r.2)
  ]

  pub is_a_so : (a b : ℕ) → is_a g a b ≡ true → IsA g a b
  unfolding is_a
  is_a_so a b h = of_within (length (types g)) a b h

  pub so_is_a : (a b : ℕ) → IsA g a b → is_a g a b ≡ true
  unfolding is_a
  so_is_a a b r =
      let q = route_of a b r in
      let s = short_route super_edges (λ z. nat_eq z b) numbers edge_numbered q.0 a q.1 in
      within_of (length (types g)) s.0 a b (omega (arith, s.2, length-below (length (types g)))) s.1

  -- is_a is transitive
  pub is_a_chain : (a b c : ℕ) → IsA g a b → IsA g b c → IsA g a c
  is_a_chain a b c (itself d) k = k
  is_a_chain a b c (by_super d e f h r) k = by_super d e c h (is_a_chain e f c r k)
