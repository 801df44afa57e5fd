-- The way along the distances is the chosen path.
use Rattle.std.proofs.Common.{◌≡◌, ℕ, zero, suc, ◌+◌, ◌<◌, ◌≤◌, ◌⊎◌, inl, inr, List, [], ◌∷◌, ◌++◌, sym, ap, ◌∙◌, subst, refl, length, arith, append_assoc, append-nil, Less, nat_cmp}
use Rattle.std.specs.Prelude.{Option, Some, None, MatchOption}
use Rattle.std.specs.Ordering.{ordering_then}
use Rattle.std.specs.Cmp.{nat_cmp_is}
use Rattle.std.specs.Cmp.Lexicographic.{slice_cmp}
use Rattle.object_values.specs.declared.graph.MakerDecl.{MakerDecl}
use Rattle.meaning_graph.specs.Graphs.{Graph, types, type_named}
use Rattle.meaning_graph.specs.Routes.{ComesBefore}
use Rattle.meaning_graph.specs.Paths.{Makes, Path, Chosen, HasNoPath, chosen_path}
use Rattle.meaning_texts.proofs.Lemmas.{same_some, some_is_none}
use Rattle.meaning_graph.proofs.Lemmas.{AtMost, at_most_behind, path_chosen, one_chosen, named_below}
use Rattle.path_planner.specs.Near.{near_at, IsAllNear, MakesAtDistance}

module _ (g : Graph) (a b : ℕ) where
  chosen_by : (p : List ℕ) → Chosen g a b p → (o : Option (List ℕ)) → MatchOption o (HasNoPath g a b) (Chosen g a b) → Some p ≡ o
  chosen_by p c None h = absurd (h p c.path)
  chosen_by p c (Some q) h = ap Some (one_chosen g a b p q c h)

  -- a chosen path is the computed one
  pub chosen_is : (p : List ℕ) → Chosen g a b p → Some p ≡ chosen_path g a b
  chosen_is p c = chosen_by p c (chosen_path g a b) (path_chosen g a b)

  none_by : HasNoPath g a b → (o : Option (List ℕ)) → MatchOption o (HasNoPath g a b) (Chosen g a b) → None ≡ o
  none_by none None h = refl
  none_by none (Some q) h = absurd (none q h.path)

  pub none_is : HasNoPath g a b → None ≡ chosen_path g a b
  none_is none = none_by none (chosen_path g a b) (path_chosen g a b)

-- a maker makes one type
one_made : (g : Graph) (a c k x y : ℕ) → Makes g a k x → Makes g c k y → x ≡ y
one_made g a c k x y m n = same_some (sym m.makes ∙ ap (λ (z : MakerDecl). type_named g z.to) (same_some (sym m.numbered ∙ n.numbered)) ∙ n.makes)

pub three_ways : (m n : ℕ) → (m < n) ⊎ ((m ≡ n) ⊎ (n < m))
three_ways zero zero = inr (inl refl)
three_ways zero (suc n) = inl (omega arith)
three_ways (suc m) zero = inr (inr (omega arith))
three_ways (suc m) (suc n) = elim (three_ways m n) [
  | inl h ↦ inl (omega (arith, h))
  | inr k ↦ elim k [ inl e ↦ inr (inl (ap suc e)) | inr h ↦ inr (inr (omega (arith, h))) ]
]

pub lesser_first : (k j : ℕ) (p q : List ℕ) → k < j → slice_cmp nat_cmp (k ∷ p) (j ∷ q) ≡ Less
lesser_first k j p q h = ap (λ o. ordering_then o (slice_cmp nat_cmp p q)) (sym (nat_cmp_is k j Less h))

pub not_longer : (p q : List ℕ) → AtMost p q → length p ≤ length q
not_longer p q (inl e) = let same : length q ≡ length p = ap length e in omega (arith, same)
not_longer p q (inr (inl h)) = omega (arith, h)
not_longer p q (inr (inr h)) = omega (arith, h.0)

module _ (g : Graph) (to : ℕ) (near : List (Option ℕ)) (w : IsAllNear g to near) where
  -- a type without a distance has no path
  pub far_away : (a : ℕ) → a < length (types g) → near_at near a ≡ None → HasNoPath g a to
  far_away a below none q r = let n = w.complete a q below r in some_is_none (near_at near a) n.0 n.1 none

  -- a type at no distance is one of the target
  empty_chosen : (a : ℕ) (q : List ℕ) → Path g a to q → length q ≡ 0 → Chosen g a to []
  empty_chosen a [] r e = record { path = r; least = λ q k. behind q }
    where
      behind : (q : List ℕ) → (q ≡ []) ⊎ ComesBefore [] q
      behind [] = inl refl
      behind (x ∷ q) = inr (inl (omega arith))
  empty_chosen a (k ∷ q) r e = absurd (omega (arith, e))

  pub arrived : (a : ℕ) → near_at near a ≡ Some 0 → Chosen g a to []
  arrived a h = let p = w.sound a 0 h in empty_chosen a p.0 p.1 p.2

  -- a chosen path is as long as the distance
  pub chosen_length : (a n : ℕ) (p : List ℕ) → near_at near a ≡ Some n → Chosen g a to p → length p ≡ n
  chosen_length a n p h c = let q = w.sound a n h in omega (arith, w.least a n p h c.path, not_longer p q.0 (c.least q.0 q.1), q.2)

  module _ (at left k next : ℕ) (here : near_at near at ≡ Some (left + 1)) (below : at < length (types g)) (leads : MakesAtDistance g near at left k next) (first : (j other : ℕ) → MakesAtDistance g near at left j other → k ≤ j) where
    -- a path whose first maker is another one
    by_first : (p : List ℕ) → Chosen g next to p → (j other : ℕ) (q : List ℕ) → Makes g at j other → Path g other to q → length q ≡ left → AtMost (k ∷ p) (j ∷ q)
    by_first p c j other q makes rest size =
        let within : other < length (types g) = named_below g makes.maker.to other makes.makes in
        let n = w.complete other q within rest in
        let s = w.sound other n.0 n.1 in
        let longest : left + 1 ≤ length (j ∷ s.0) = w.least at (left + 1) (j ∷ s.0) here (other, makes, s.1) in
        let same : n.0 ≡ left = omega (arith, longest, s.2, w.least other n.0 q n.1 rest, size) in
        let not_less : k ≤ j = first j other (makes, n.1 ∙ ap Some same) in
        elim (three_ways k j) [
          | inl less ↦ inr (inr (omega (arith, chosen_length next left p leads.1 c, size), lesser_first k j p q less))
          | inr l ↦ elim l [
            | inl e ↦
                let one : next ≡ other = one_made g at at k next other leads.0 (subst (λ x. Makes g at x other) (sym e) makes) in
                subst (λ x. AtMost (k ∷ p) (x ∷ q)) e (at_most_behind k p q (c.least q (subst (λ x. Path g x to q) (sym one) rest)))
            | inr more ↦ absurd (omega (arith, more, not_less))
          ]
        ]

    -- a path as long as the distance, or a longer one
    by_length : (p : List ℕ) → Chosen g next to p → (q : List ℕ) → Path g at to q → AtMost (k ∷ p) q
    by_length p c [] r = let none : left + 1 ≤ 0 = w.least at (left + 1) [] here r in absurd (omega (arith, none))
    by_length p c (j ∷ q) r = elim (three_ways (length q) left) [
      | inl less ↦ let most : left + 1 ≤ length (j ∷ q) = w.least at (left + 1) (j ∷ q) here r in absurd (omega (arith, most, less))
      | inr l ↦ elim l [
        | inl e ↦ by_first p c j r.0 q r.1 r.2 e
        | inr more ↦ inr (inl (omega (arith, more, chosen_length next left p leads.1 c)))
      ]
    ]

    -- the least maker that leads nearer, and then a chosen path, are a chosen path
    pub one_step : (p : List ℕ) → Chosen g next to p → Chosen g at to (k ∷ p)
    one_step p c = record { path = (next, leads.0, c.path); least = λ q r. by_length p c q r }

  -- there is such a maker
  some_leads : (at left : ℕ) → near_at near at ≡ Some (left + 1) → (q : List ℕ) → Path g at to q → length q ≡ left + 1 → (k : ℕ) × (next : ℕ) × MakesAtDistance g near at left k next
  some_leads at left here [] r e = absurd (omega (arith, e))
  some_leads at left here (k ∷ q) r e =
      let within : r.0 < length (types g) = named_below g r.1.maker.to r.0 r.1.makes in
      let n = w.complete r.0 q within r.2 in
      let s = w.sound r.0 n.0 n.1 in
      let longest : left + 1 ≤ length (k ∷ s.0) = w.least at (left + 1) (k ∷ s.0) here (r.0, r.1, s.1) in
      let same : n.0 ≡ left = omega (arith, longest, s.2, w.least r.0 n.0 q n.1 r.2, e) in
      (k, r.0, (r.1, n.1 ∙ ap Some same))

  pub one_leads : (at left : ℕ) → near_at near at ≡ Some (left + 1) → ((k next : ℕ) → MakesAtDistance g near at left k next → ⊥) → ⊥
  one_leads at left here none = let p = w.sound at (left + 1) here in let k = some_leads at left here p.0 p.1 p.2 in none k.0 k.1 k.2

-- The makers so far, and then a chosen path from the type that they led to, are a chosen path.
pub record IsOnWay (g : Graph) (to : ℕ) (near : List (Option ℕ)) (from at left : ℕ) (path : List ℕ) : Type 0 where
  pub within : at < length (types g)
  pub distance : near_at near at ≡ Some left
  pub rest : (p : List ℕ) → Chosen g at to p → Chosen g from to (path ++ p)

pub sets_out : (g : Graph) (to : ℕ) (near : List (Option ℕ)) (from left : ℕ) → from < length (types g) → near_at near from ≡ Some left → IsOnWay g to near from from left []
sets_out g to near from left below h = record { within = below; distance = h; rest = λ p c. c }

module _ (g : Graph) (to : ℕ) (near : List (Option ℕ)) (all : IsAllNear g to near) (from at left : ℕ) (path : List ℕ) where
  pub goes_on : IsOnWay g to near from at (left + 1) path → (k next : ℕ) → MakesAtDistance g near at left k next → ((j other : ℕ) → MakesAtDistance g near at left j other → k ≤ j) → IsOnWay g to near from next left (path ++ k ∷ [])
  goes_on w k next leads first = record {
    within = named_below g leads.0.maker.to next leads.0.makes;
    distance = leads.1;
    rest = λ p c. subst (Chosen g from to) (sym (append_assoc path (k ∷ []) p)) (w.rest (k ∷ p) (one_step g to near all at left k next w.distance w.within leads first p c));
  }

  pub arrives : IsOnWay g to near from at 0 path → Some path ≡ chosen_path g from to
  arrives w = chosen_is g from to path (subst (Chosen g from to) (append-nil path) (w.rest [] (arrived g to near all at w.distance)))
