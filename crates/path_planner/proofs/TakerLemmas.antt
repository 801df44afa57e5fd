-- The makers that take a type, in their order.
use Rattle.std.proofs.Common.{◌≡◌, ℕ, zero, suc, ◌+◌, ◌<◌, ◌≤◌, ◌⊎◌, inl, inr, Bool, true, false, cond, List, [], ◌∷◌, ◌++◌, sym, ap, ◌∙◌, subst, refl, length, take, drop, arith, slice_get, slice_index_or}
use Rattle.std.specs.Prelude.{Some}
use Rattle.meaning_texts.specs.Lists.{IsIn}
use Rattle.meaning_graph.specs.Graphs.{Graph}
use Rattle.meaning_graph.specs.Paths.{Makes}
use Rattle.meaning_texts.proofs.Lemmas.{same_some}
use Rattle.path_planner.specs.declared.route.Ends.{Ends}
use Rattle.path_planner.specs.Ends.{ends_in, takes, takers_from, takers_of}
use Rattle.path_planner.proofs.EndLemmas.{of_makes}

in_cond : (b : Bool) (n x : ℕ) (rest : List ℕ) → IsIn x rest → IsIn x (cond b (n ∷ rest) rest)
in_cond true n x rest h = inr h
in_cond false n x rest h = h

from_cond : (b : Bool) (n x : ℕ) (rest : List ℕ) → IsIn x (cond b (n ∷ rest) rest) → (x ≡ n) ⊎ IsIn x rest
from_cond true n x rest h = h
from_cond false n x rest h = inr h

module _ (g : Graph) (a : ℕ) where
  taker_in : (es : List Ends) (start j : ℕ) (e : Ends) → slice_get es j ≡ Some e → takes g a e.from ≡ true → IsIn (start + j) (takers_from g a es start)
  taker_in [] start j e h taken = cc
  taker_in (x ∷ es) start zero e h taken =
      let here : takes g a x.from ≡ true = ap (λ (y : Ends). takes g a y.from) (same_some h) ∙ taken in
      let same : start + 0 ≡ start = omega arith in
      subst (λ b. IsIn (start + 0) (cond b (start ∷ takers_from g a es (suc start)) (takers_from g a es (suc start)))) (sym here) (inl same)
  taker_in (x ∷ es) start (suc j) e h taken =
      let same : suc start + j ≡ start + suc j = omega arith in
      in_cond (takes g a x.from) start (start + suc j) (takers_from g a es (suc start)) (subst (λ n. IsIn n (takers_from g a es (suc start))) same (taker_in es (suc start) j e h taken))

  taker_above : (es : List Ends) (start x : ℕ) → IsIn x (takers_from g a es start) → start ≤ x
  taker_above [] start x h = absurd h
  taker_above (e ∷ es) start x h = elim (from_cond (takes g a e.from) start x (takers_from g a es (suc start)) h) [
    | inl is ↦ omega (arith, is)
    | inr k ↦ let above = taker_above es (suc start) x k in omega (arith, above)
  ]

  taker_below : (es : List Ends) (start x : ℕ) → IsIn x (takers_from g a es start) → x < start + length es
  taker_below [] start x h = absurd h
  taker_below (e ∷ es) start x h = elim (from_cond (takes g a e.from) start x (takers_from g a es (suc start)) h) [
    | inl is ↦ omega (arith, is)
    | inr k ↦ let below = taker_below es (suc start) x k in omega (arith, below)
  ]

  -- each number is at most those after it
  Rise : List ℕ → Type 0
  Rise [] = Unit {0}
  Rise (x ∷ xs) = ((y : ℕ) → IsIn y xs → x ≤ y) × Rise xs

  rises : (es : List Ends) (start : ℕ) → Rise (takers_from g a es start)
  unfolding Rise
  rises [] start = tt
  rises (e ∷ es) start = elim (takes g a e.from) as (λ b. Rise (cond b (start ∷ takers_from g a es (suc start)) (takers_from g a es (suc start)))) [
    | true ↦ (λ y h. let above = taker_above es (suc start) y h in omega (arith, above), rises es (suc start))
    | false ↦ rises es (suc start)
  ]

  before_or_least : (xs : List ℕ) → Rise xs → (i d : ℕ) → i < length xs → (j : ℕ) → IsIn j xs → IsIn j (take i xs) ⊎ (slice_index_or xs i d ≤ j)
  unfolding Rise
  before_or_least [] rise i d lt j h = absurd h
  before_or_least (x ∷ xs) rise zero d lt j h = inr (elim h [ inl e ↦ omega (arith, e) | inr k ↦ rise.0 j k ])
  before_or_least (x ∷ xs) rise (suc i) d lt j h = elim h [
    | inl e ↦ inl (inl e)
    | inr k ↦ elim (before_or_least xs rise.1 i d (omega (arith, lt)) j k) [ inl m ↦ inl (inr m) | inr m ↦ inr m ]
  ]

  module _ (takers : List ℕ) (made : takers ≡ takers_of g a) where
    -- a maker that leads on takes the type
    pub leads_among : (k next : ℕ) → Makes g a k next → IsIn k takers
    leads_among k next makes = let lead = of_makes g a k next makes in let same : 0 + k ≡ k = omega arith in
        subst (λ l. IsIn k l) (sym made) (subst (λ n. IsIn n (takers_of g a)) same (taker_in (ends_in g) 0 k _ lead.ends_are lead.fits))

    pub taker_within : (k : ℕ) → IsIn k takers → k < length (ends_in g)
    taker_within k h = let below = taker_below (ends_in g) 0 k (subst (λ l. IsIn k l) made h) in omega (arith, below)

    pub least_taker : (i d : ℕ) → i < length takers → (j : ℕ) → IsIn j takers → IsIn j (take i takers) ⊎ (slice_index_or takers i d ≤ j)
    least_taker i d lt j h = before_or_least takers (subst Rise (sym made) (rises (ends_in g) 0)) i d lt j h

  -- maker by maker
  pub one_taker : (es : List Ends) (i next : ℕ) (e : Ends) (found new all : List ℕ) → slice_get es i ≡ Some e → suc i ≡ next
      → found ++ takers_from g a (drop i es) i ≡ all → new ≡ cond (takes g a e.from) (found ++ i ∷ []) found → new ++ takers_from g a (drop next es) next ≡ all
  one_taker es i next e found new all here is so_far new_is =
      subst (λ n. new ++ takers_from g a (drop n es) n ≡ all) is (by_case (takes g a e.from) refl new_is)
    where
      dropped : (es : List Ends) (i : ℕ) (e : Ends) → slice_get es i ≡ Some e → drop i es ≡ e ∷ drop (suc i) es
      dropped [] i e here = cc
      dropped (x ∷ xs) zero e here = ap (λ y. y ∷ xs) (same_some here)
      dropped (x ∷ xs) (suc i) e here = dropped xs i e here

      joins : (xs : List ℕ) (y : ℕ) (ys : List ℕ) → (xs ++ y ∷ []) ++ ys ≡ xs ++ y ∷ ys
      joins [] y ys = refl
      joins (x ∷ xs) y ys = ap (λ r. x ∷ r) (joins xs y ys)

      rest : found ++ takers_from g a (e ∷ drop (suc i) es) i ≡ all
      rest = ap (λ (l : List Ends). found ++ takers_from g a l i) (sym (dropped es i e here)) ∙ so_far

      by_case : (b : Bool) → takes g a e.from ≡ b → new ≡ cond b (found ++ i ∷ []) found → new ++ takers_from g a (drop (suc i) es) (suc i) ≡ all
      by_case true taken is = ap (λ l. l ++ takers_from g a (drop (suc i) es) (suc i)) is ∙ joins found i (takers_from g a (drop (suc i) es) (suc i))
          ∙ ap (λ b. found ++ cond b (i ∷ takers_from g a (drop (suc i) es) (suc i)) (takers_from g a (drop (suc i) es) (suc i))) (sym taken) ∙ rest
      by_case false taken is = ap (λ l. l ++ takers_from g a (drop (suc i) es) (suc i)) is
          ∙ ap (λ b. found ++ cond b (i ∷ takers_from g a (drop (suc i) es) (suc i)) (takers_from g a (drop (suc i) es) (suc i))) (sym taken) ∙ rest

  pub all_takers : (es : List Ends) (i : ℕ) (found all : List ℕ) → length es ≤ i → found ++ takers_from g a (drop i es) i ≡ all → found ≡ all
  all_takers es i found all le is = sym (nothing found) ∙ ap (λ (l : List Ends). found ++ takers_from g a l i) (sym (none_left es i le)) ∙ is
    where
      none_left : (es : List Ends) (i : ℕ) → length es ≤ i → drop i es ≡ []
      none_left [] zero le = refl
      none_left [] (suc i) le = refl
      none_left (x ∷ xs) zero le = absurd (omega (arith, le))
      none_left (x ∷ xs) (suc i) le = none_left xs i (omega (arith, le))

      nothing : (xs : List ℕ) → xs ++ [] ≡ xs
      nothing [] = refl
      nothing (x ∷ xs) = ap (λ r. x ∷ r) (nothing xs)
