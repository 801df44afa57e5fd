-- The least route is found: where there is a route there is one with no more labels than places, since a route that leaves a place twice can be cut.
use Rattle.std.proofs.Common.{◌≡◌, ℕ, zero, suc, ◌≤◌, ◌<◌, Bool, true, false, List, [], ◌∷◌, ◌++◌, ◌⊎◌, inl, inr, sym, ap, subst, refl, length, arith, length-append}
use Rattle.std.specs.Prelude.{Option, Some, None, option_map, IsTrue}
use Rattle.meaning_texts.specs.Lists.{IsIn}
use Rattle.meaning_graph.specs.Routes.{Edges, least_over, least_route}
use Rattle.meaning_texts.proofs.Lemmas.{split_at, in_without, never_both}
use Rattle.meaning_graph.proofs.Order.{AtMost, IsLeast, least_same, lesser_least, at_most_behind}

-- the labels lead from a to a place that passes the test
abbrev pub Route : {A : Type 0} → Edges A → (A → Bool) → A → List ℕ → Type 0
Route out ends a [] = IsTrue (ends a)
Route {A} out ends a (k ∷ ks) = (c : A) × IsIn (k, c) (out a) × Route out ends c ks

module _ {A : Type 0} (out : Edges A) (ends : A → Bool) where
  -- a route that leaves none but these places
  abbrev pub RouteFrom : List A → A → List ℕ → Type 0
  RouteFrom places a [] = IsTrue (ends a)
  RouteFrom places a (k ∷ ks) = (c : A) × IsIn a places × IsIn (k, c) (out a) × RouteFrom places c ks

  -- the last edge out of a place, and the rest, which does not leave that place
  record LastFrom (a : A) (places : List A) : Type 0 where
    label : ℕ
    next : A
    rest : List ℕ
    edge : IsIn (label, next) (out a)
    on : RouteFrom places next rest

  last_from : (a : A) (front back : List A) (ks : List ℕ) (b : A) → RouteFrom (front ++ a ∷ back) b ks → RouteFrom (front ++ back) b ks ⊎ LastFrom a (front ++ back)
  last_from a front back [] b r = inl r
  last_from a front back (k ∷ ks) b r = elim (last_from a front back ks r.0 r.3) [
    | inr found ↦ inr found
    | inl on ↦ elim (in_without b a front back r.1) [
      | inl e ↦ inr (record { label = k; next = r.0; rest = ks; edge = subst (λ z. IsIn (k, r.0) (out z)) e r.2; on = on })
      | inr i ↦ inl (r.0, i, r.2, on)
    ]
  ]

  fewer : (a : A) (places front back : List A) (n : ℕ) → places ≡ front ++ a ∷ back → length places ≤ suc n → length (front ++ back) ≤ n
  fewer a places front back n e few = let whole : length places ≡ length (front ++ a ∷ back) = ap length e in omega (arith, few, whole, length-append front (a ∷ back), length-append front back)

  pub shortened : (n : ℕ) (places : List A) → length places ≤ n → (ks : List ℕ) (a : A) → RouteFrom places a ks → (q : List ℕ) × Route out ends a q × (length q ≤ n)
  shortened n places few [] a r = ([], r, omega arith)
  shortened zero [] few (k ∷ ks) a r = absurd r.1
  shortened zero (p ∷ places) few (k ∷ ks) a r = absurd (omega (arith, few))
  shortened (suc n) places few (k ∷ ks) a r =
      let s = split_at a places r.1 in
      elim (last_from a s.0 s.1 (k ∷ ks) a (subst (λ l. RouteFrom l a (k ∷ ks)) s.2 r)) [
        | inl on ↦ let i = shortened n (s.0 ++ s.1) (fewer a places s.0 s.1 n s.2 few) (k ∷ ks) a on in (i.0, i.1, omega (arith, i.2))
        | inr l ↦ let i = shortened n (s.0 ++ s.1) (fewer a places s.0 s.1 n s.2 few) l.rest l.next l.on in (l.label ∷ i.0, (l.next, l.edge, i.1), omega (arith, i.2))
      ]

  -- where the places are all that have edges
  from_all : (places : List A) → ((a : A) (e : ℕ × A) → IsIn e (out a) → IsIn a places) → (ks : List ℕ) (a : A) → Route out ends a ks → RouteFrom places a ks
  from_all places listed [] a r = r
  from_all places listed (k ∷ ks) a r = (r.0, listed a (k, r.0) r.1, r.1, from_all places listed ks r.0 r.2)

  pub short_route : (places : List A) → ((a : A) (e : ℕ × A) → IsIn e (out a) → IsIn a places) → (ks : List ℕ) (a : A) → Route out ends a ks → (q : List ℕ) × Route out ends a q × (length q ≤ length places)
  short_route places listed ks a r = shortened (length places) places (omega arith) ks a (from_all places listed ks a r)

  -- ---- the least route of so many labels

  abbrev Within : ℕ → A → List ℕ → Type 0
  Within n a q = Route out ends a q × (length q ≤ n)

  -- a route over this edge, or over one of these edges
  abbrev Over : ℕ → ℕ × A → List ℕ → Type 0
  Over n e [] = ⊥
  Over n e (k ∷ ks) = (k ≡ e.0) × Within n e.1 ks

  abbrev OverOne : ℕ → List (ℕ × A) → List ℕ → Type 0
  OverOne n es [] = ⊥
  OverOne n es (k ∷ ks) = (c : A) × IsIn (k, c) es × Within n c ks

  over_least : (n : ℕ) (e : ℕ × A) (o : Option (List ℕ)) → IsLeast (Within n e.1) o → IsLeast (Over n e) (option_map (λ q. e.0 ∷ q) o)
  over_least n e None l = elim [ [] ↦ λ k. k | x ∷ q ↦ λ k. l q k.1 ]
  over_least n e (Some p) l = ((refl, l.0), elim [ [] ↦ λ k. absurd k | x ∷ q ↦ λ k. subst (λ z. AtMost (e.0 ∷ p) (z ∷ q)) (sym k.0) (at_most_behind e.0 p q (l.1 q k.1)) ])

  over_more : (n : ℕ) (e : ℕ × A) (es : List (ℕ × A)) (q : List ℕ) → Over n e q ⊎ OverOne n es q → OverOne n (e ∷ es) q
  over_more n e es [] (inl k) = k
  over_more n e es [] (inr k) = k
  over_more n e es (x ∷ q) (inl k) = (e.1, inl (λ i. (k.0 i, e.1)), k.1)
  over_more n e es (x ∷ q) (inr k) = (k.0, inr k.1, k.2)

  over_less : (n : ℕ) (e : ℕ × A) (es : List (ℕ × A)) (q : List ℕ) → OverOne n (e ∷ es) q → Over n e q ⊎ OverOne n es q
  over_less n e es [] k = absurd k
  over_less n e es (x ∷ q) k = elim k.1 [
    | inl i ↦ inl (ap (λ (z : ℕ × A). z.0) i, subst (λ z. Within n z q) (ap (λ (z : ℕ × A). z.1) i) k.2)
    | inr i ↦ inr (k.0, i, k.2)
  ]

  least_over_least : (n : ℕ) (rest : A → Option (List ℕ)) → ((c : A) → IsLeast (Within n c) (rest c)) → (es : List (ℕ × A)) → IsLeast (OverOne n es) (least_over rest es)
  least_over_least n rest l [] = elim [ [] ↦ λ k. k | x ∷ q ↦ λ k. k.1 ]
  least_over_least n rest l (e ∷ es) = least_same (λ q. Over n e q ⊎ OverOne n es q) (OverOne n (e ∷ es)) (least_over rest (e ∷ es)) (over_more n e es) (over_less n e es)
      (lesser_least (Over n e) (OverOne n es) (option_map (λ q. e.0 ∷ q) (rest e.1)) (least_over rest es) (over_least n e (rest e.1) (l e.1)) (least_over_least n rest l es))

  -- the empty route is before every other one
  empty_first : (P : List ℕ → Type 0) → P [] → IsLeast P (Some [])
  empty_first P p = (p, elim [ [] ↦ λ k. inl refl | x ∷ q ↦ λ k. inr (inl (omega arith)) ])

  within_over : (n : ℕ) (a : A) → ends a ≡ false → (q : List ℕ) → Within (suc n) a q → OverOne n (out a) q
  within_over n a e [] k = never_both (ends a) k.0 e
  within_over n a e (x ∷ q) k = (k.0.0, k.0.1, (k.0.2, omega (arith, k.1)))

  over_within : (n : ℕ) (a : A) (q : List ℕ) → OverOne n (out a) q → Within (suc n) a q
  over_within n a [] k = absurd k
  over_within n a (x ∷ q) k = ((k.0, k.1, k.2.0), omega (arith, k.2.1))

  pub least_is_least : (n : ℕ) (a : A) → IsLeast (Within n a) (least_route out ends n a)
  least_is_least zero a = (elim (ends a) as (λ b. ends a ≡ b → IsLeast (Within zero a) (elim b [ true ↦ Some [] | false ↦ None ])) [
    | true ↦ λ e. empty_first (Within zero a) (e, omega arith)
    | false ↦ λ e. elim [ [] ↦ λ k. never_both (ends a) k.0 e | x ∷ q ↦ λ k. absurd (omega (arith, k.1)) ]
  ]) refl
  least_is_least (suc n) a = (elim (ends a) as (λ b. ends a ≡ b → IsLeast (Within (suc n) a) (elim b [ true ↦ Some [] | false ↦ least_over (least_route out ends n) (out a) ])) [
    | true ↦ λ e. empty_first (Within (suc n) a) (e, omega arith)
    | false ↦ λ e. least_same (OverOne n (out a)) (Within (suc n) a) (least_over (least_route out ends n) (out a)) (over_within n a) (within_over n a e)
        (least_over_least n (least_route out ends n) (λ c. least_is_least n c) (out a))
  ]) refl

  -- the least of the short ones is the least of all
  pub least_of_all : (places : List A) → ((a : A) (e : ℕ × A) → IsIn e (out a) → IsIn a places) → (a : A) → IsLeast (Route out ends a) (least_route out ends (length places) a)
  least_of_all places listed a = of_all (least_route out ends (length places) a) (least_is_least (length places) a)
    where
      of_all : (o : Option (List ℕ)) → IsLeast (Within (length places) a) o → IsLeast (Route out ends a) o
      of_all None l = λ q r. let s = short_route places listed q a r in l s.0 (s.1, s.2)
      of_all (Some p) l = (l.0.0, λ q r. by_size p l q r)
        where
          by_size : (p : List ℕ) → IsLeast (Within (length places) a) (Some p) → (q : List ℕ) → Route out ends a q → AtMost p q
          by_size p l q r = elim (fits_or_longer (length q) (length places)) [
            | inl few ↦ l.1 q (r, few)
            | inr many ↦ inr (inl (omega (arith, many, l.0.1)))
          ]
            where
              fits_or_longer : (m n : ℕ) → (m ≤ n) ⊎ (n < m)
              fits_or_longer zero n = inl (omega arith)
              fits_or_longer (suc m) zero = inr (omega arith)
              fits_or_longer (suc m) (suc n) = elim (fits_or_longer m n) [ inl h ↦ inl (omega (arith, h)) | inr h ↦ inr (omega (arith, h)) ]
