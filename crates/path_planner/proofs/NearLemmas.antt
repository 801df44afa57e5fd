-- Distances, level by level.
use Rattle.std.proofs.Common.{◌≡◌, ℕ, zero, suc, ◌+◌, ◌<◌, ◌≤◌, ◌⊎◌, inl, inr, true, false, List, [], ◌∷◌, sym, ap, ◌∙◌, subst, refl, length, arith, take, replicate, set, length-set, slice_index_or, ◌++◌}
use Rattle.std.specs.Prelude.{Option, Some, None, is_some}
use Rattle.std.proofs.lemmas.List.{length-replicate, get_or-set_same, get_or-set_other}
use Rattle.meaning_texts.specs.Lists.{IsIn}
use Rattle.meaning_graph.specs.Graphs.{Graph, types}
use Rattle.meaning_graph.specs.Types.{IsA, itself, by_super, is_a}
use Rattle.meaning_graph.specs.Paths.{Makes, Path, maker_edges}
use Rattle.meaning_texts.proofs.Lemmas.{same_some, some_is_none, in_left, in_right, in_either}
use Rattle.meaning_graph.proofs.Lemmas.{Route, short_route, numbers, in_below, length-below, super_numbered, is_a_so, so_is_a, named_below, edge_makes, makes_edge}
use Rattle.path_planner.specs.Near.{near_at, AddsBelow, IsNear, IsAtLevel, IsBetween, IsAllNear, LeadTo, Reaches}
use Rattle.path_planner.proofs.EndLemmas.{of_makes}
use Rattle.path_planner.proofs.RouteLemmas.{three_ways}

-- a type with a distance lies within the list
pub near_within : (near : List (Option ℕ)) (a n : ℕ) → near_at near a ≡ Some n → a < length near
near_within [] a n h = cc
near_within (x ∷ xs) zero n h = omega arith
near_within (x ∷ xs) (suc a) n h = omega (arith, near_within xs a n h)

pub below_or : (a n : ℕ) → a ≤ n → (a < n) ⊎ (a ≡ n)
below_or zero zero h = inr refl
below_or zero (suc n) h = inl (omega arith)
below_or (suc a) zero h = absurd (omega (arith, h))
below_or (suc a) (suc n) h = elim (below_or a n (omega (arith, h))) [ inl k ↦ inl (omega (arith, k)) | inr e ↦ inr (ap suc e) ]

-- ---- types that are given a distance

none_near : (n a m : ℕ) → near_at (replicate n None) a ≡ Some m → ⊥
none_near zero a m h = cc
none_near (suc n) zero m h = cc
none_near (suc n) (suc a) m h = none_near n a m h

pub none_by_all : (o : Option ℕ) → ((n : ℕ) → o ≡ Some n → ⊥) → o ≡ None
none_by_all None h = refl
none_by_all (Some n) h = absurd (h n refl)

pub reaches_none : (distance : ℕ) (near : List (Option ℕ)) (front : List ℕ) → Reaches distance [] near front near front
reaches_none distance near front = record {
  sized = refl;
  kept = λ a n h. h;
  fresh = λ a n h. inl h;
  all = λ a h. absurd h;
  still = λ a h. h;
  listed = λ a n none h. some_is_none (near_at near a) n h none;
  only = λ a h. inl h;
}

module _ (distance : ℕ) (numbers : List ℕ) (old : List (Option ℕ)) (front : List ℕ) (near : List (Option ℕ)) (next : List ℕ) (so_far : Reaches distance numbers old front near next) (b : ℕ) where
  -- one that has a distance
  pub reach_known : (m : ℕ) → near_at near b ≡ Some m → Reaches distance (numbers ++ b ∷ []) old front near next
  reach_known m known = record {
    sized = so_far.sized;
    kept = so_far.kept;
    fresh = λ a n h. elim (so_far.fresh a n h) [ inl e ↦ inl e | inr f ↦ inr (f.0, in_left a numbers (b ∷ []) f.1, f.2) ];
    all = λ a h. elim (in_either a numbers (b ∷ []) h) [
      | inl i ↦ so_far.all a i
      | inr i ↦ elim i [ inl e ↦ (m, ap (near_at near) e ∙ known) | inr bad ↦ absurd bad ]
    ];
    still = so_far.still;
    listed = so_far.listed;
    only = so_far.only;
  }

  -- one that has none yet
  module _ (none : near_at near b ≡ None) (below : b < length near) where
    abbrev given : List (Option ℕ)
    given = set near b (Some distance)

    here : near_at given b ≡ Some distance
    here = get_or-set_same near b (Some distance) None below

    either : (a : ℕ) → (a ≡ b) ⊎ (near_at given a ≡ near_at near a)
    either a = elim (three_ways a b) [
      | inl l ↦ inr (get_or-set_other near b a (Some distance) None (omega (arith, l)))
      | inr r ↦ elim r [ inl e ↦ inl e | inr l ↦ inr (get_or-set_other near b a (Some distance) None (omega (arith, l))) ]
    ]

    was_none : (a : ℕ) → a ≡ b → near_at old a ≡ None
    was_none a e = none_by_all (near_at old a) (λ m h. some_is_none (near_at near a) m (so_far.kept a m h) (ap (near_at near) e ∙ none))

    pub reach_new : Reaches distance (numbers ++ b ∷ []) old front given (next ++ b ∷ [])
    reach_new = record {
      sized = length-set near b (Some distance) ∙ so_far.sized;
      kept = λ a n h. elim (either a) [ inl e ↦ some_is_none (near_at near a) n (so_far.kept a n h) (ap (near_at near) e ∙ none) | inr o ↦ o ∙ so_far.kept a n h ];
      fresh = λ a n h. elim (either a) [
        | inl e ↦ inr (was_none a e, in_right a numbers (b ∷ []) (inl e), same_some (sym h ∙ ap (near_at given) e ∙ here))
        | inr o ↦ elim (so_far.fresh a n (sym o ∙ h)) [ inl k ↦ inl k | inr f ↦ inr (f.0, in_left a numbers (b ∷ []) f.1, f.2) ]
      ];
      all = λ a h. elim (either a) [
        | inl e ↦ (distance, ap (near_at given) e ∙ here)
        | inr o ↦ elim (in_either a numbers (b ∷ []) h) [
          | inl i ↦ let n = so_far.all a i in (n.0, o ∙ n.1)
          | inr i ↦ elim i [ inl e ↦ (distance, ap (near_at given) e ∙ here) | inr bad ↦ absurd bad ]
        ]
      ];
      still = λ a h. in_left a next (b ∷ []) (so_far.still a h);
      listed = λ a n absent h. elim (either a) [
        | inl e ↦ in_right a next (b ∷ []) (inl e)
        | inr o ↦ in_left a next (b ∷ []) (so_far.listed a n absent (sym o ∙ h))
      ];
      only = λ a h. elim (either a) [
        | inl e ↦ inr (ap (near_at given) e ∙ here)
        | inr o ↦ elim (in_either a next (b ∷ []) h) [
          | inl i ↦ elim (so_far.only a i) [ inl f ↦ inl f | inr k ↦ inr (o ∙ k) ]
          | inr i ↦ elim i [ inl e ↦ inr (ap (near_at given) e ∙ here) | inr bad ↦ absurd bad ]
        ]
      ];
    }

-- ---- items of lists

pub in_at : {A : Type 0} (xs : List A) (i : ℕ) (d : A) → i < length xs → IsIn (slice_index_or xs i d) xs
in_at [] i d lt = absurd (omega (arith, lt))
in_at (x ∷ xs) zero d lt = inl refl
in_at (x ∷ xs) (suc i) d lt = inr (in_at xs i d (omega (arith, lt)))

pub in_none : (a : ℕ) (xs : List ℕ) → length xs ≡ 0 → IsIn a xs → ⊥
in_none a [] none h = h
in_none a (x ∷ xs) none h = absurd (omega (arith, none))

pub take_all : (xs : List ℕ) (n : ℕ) → length xs ≤ n → take n xs ≡ xs
take_all [] zero le = refl
take_all [] (suc n) le = refl
take_all (x ∷ xs) zero le = absurd (omega (arith, le))
take_all (x ∷ xs) (suc n) le = ap (λ rest. x ∷ rest) (take_all xs n (omega (arith, le)))

pub read_default : (near : List (Option ℕ)) (b : ℕ) (x : Option ℕ) → b < length near → x ≡ slice_index_or near b x → near_at near b ≡ x
read_default [] b x lt is = absurd (omega (arith, lt))
read_default (y ∷ ys) zero x lt is = sym is
read_default (y ∷ ys) (suc b) x lt is = read_default ys b x (omega (arith, lt)) is

pub none_of : (o : Option ℕ) → is_some o ≡ false → o ≡ None
none_of None h = refl
none_of (Some n) h = cc

pub some_of : (o : Option ℕ) → is_some o ≡ true → (n : ℕ) × (o ≡ Some n)
some_of None h = cc
some_of (Some n) h = (n, refl)

-- ---- the first level

module _ (g : Graph) (to : ℕ) (first : List ℕ) (added : AddsBelow g to (length (types g)) [] first) (near : List (Option ℕ)) (front : List ℕ) (r : Reaches 0 first (replicate (length (types g)) None) [] near front) where
  was_first : (a : ℕ) → IsIn a first → is_a g a to ≡ true
  was_first a h = elim ((added a).0 h) [ inl bad ↦ absurd bad | inr k ↦ k.1 ]

  zero_near : (a n : ℕ) → near_at near a ≡ Some n → (is_a g a to ≡ true) × (n ≡ 0)
  zero_near a n h = elim (r.fresh a n h) [
    | inl e ↦ absurd (none_near (length (types g)) a n e)
    | inr f ↦ (was_first a f.1, f.2)
  ]

  by_path : (a : ℕ) (p : List ℕ) → a < length (types g) → Path g a to p → length p ≤ 0 → (n : ℕ) × (near_at near a ≡ Some n)
  by_path a [] below path few = r.all a ((added a).1 (inr (below, so_is_a g a to path)))
  by_path a (k ∷ p) below path few = absurd (omega (arith, few))

  pub first_level : IsAtLevel g to 0 near front
  first_level = (
    record {
      sized = r.sized ∙ length-replicate (length (types g)) None;
      sound = λ a n h. let z = zero_near a n h in ([], is_a_so g a to z.0, sym z.1);
      least = λ a n p h path. let z = zero_near a n h in omega (arith, z.1);
      bounded = λ a n h. let z = zero_near a n h in omega (arith, z.1);
      complete = by_path;
    },
    record {
      at = λ a h. elim (r.only a h) [ inl bad ↦ absurd bad | inr k ↦ k ];
      has = λ a h. elim (r.fresh a 0 h) [ inl e ↦ absurd (none_near (length (types g)) a 0 e) | inr f ↦ r.listed a 0 f.0 h ];
    },
  )

pub first_within : (g : Graph) (to : ℕ) (first : List ℕ) → AddsBelow g to (length (types g)) [] first → (a : ℕ) → IsIn a first → a < length (types g)
first_within g to first added a h = elim ((added a).0 h) [ inl bad ↦ absurd bad | inr k ↦ k.0 ]

-- ---- from one level to the next

pub front_within : (g : Graph) (to level : ℕ) (near : List (Option ℕ)) (front : List ℕ) → IsAtLevel g to level near front → (b : ℕ) → IsIn b front → b < length (types g)
front_within g to level near front w b h = let lt = near_within near b level (w.1.at b h) in omega (arith, lt, w.0.sized)

module _ (g : Graph) (to level : ℕ) (front : List ℕ) where
  pub begins : (near : List (Option ℕ)) → IsAtLevel g to level near front → IsBetween g to level front [] near []
  begins near w = record {
    sized = w.0.sized;
    sound = w.0.sound;
    least = w.0.least;
    bounded = λ a n h. omega (arith, w.0.bounded a n h);
    complete = w.0.complete;
    spread = λ b a k h makes below. absurd h;
    here = w.1;
    after = record { at = λ a h. absurd h; has = λ a h. let less = w.0.bounded a (level + 1) h in absurd (omega (arith, less)) };
  }

  -- a type in front, with what leads to it
  module _ (looked : List ℕ) (near : List (Option ℕ)) (next : List ℕ) (w : IsBetween g to level front looked near next) (b : ℕ) (in_front : IsIn b front) (sources : List ℕ) (lead : LeadTo g b sources)
      (new : List (Option ℕ)) (then : List ℕ) (r : Reaches (level + 1) sources near next new then) where
    longer : (a : ℕ) (p : List ℕ) → near_at near a ≡ None → a < length (types g) → Path g a to p → level + 1 ≤ length p
    longer a p absent below path = elim (fits_or_longer (length p) level) [
      | inl few ↦ let k = w.complete a p below path few in some_is_none (near_at near a) k.0 k.1 absent
      | inr many ↦ omega (arith, many)
    ]
      where
        fits_or_longer : (m n : ℕ) → (m ≤ n) ⊎ (n < m)
        fits_or_longer zero n = inl (omega arith)
        fits_or_longer (suc m) zero = inr (omega arith)
        fits_or_longer (suc m) (suc n) = elim (fits_or_longer m n) [ inl h ↦ inl (omega (arith, h)) | inr h ↦ inr (omega (arith, h)) ]

    pub looked_at : IsBetween g to level front (looked ++ b ∷ []) new then
    looked_at = record {
      sized = r.sized ∙ w.sized;
      sound = λ a n h. elim (r.fresh a n h) [
        | inl e ↦ w.sound a n e
        | inr f ↦ let m = lead.sound a f.1 in let p = w.sound b level (w.here.at b in_front) in (m.1 ∷ p.0, (b, m.2, p.1), omega (arith, p.2, f.2))
      ];
      least = λ a n p h path. elim (r.fresh a n h) [
        | inl e ↦ w.least a n p e path
        | inr f ↦ let m = lead.sound a f.1 in omega (arith, f.2, longer a p f.0 m.0 path)
      ];
      bounded = λ a n h. elim (r.fresh a n h) [ inl e ↦ w.bounded a n e | inr f ↦ omega (arith, f.2) ];
      complete = λ a p below path few. let k = w.complete a p below path few in (k.0, r.kept a k.0 k.1);
      spread = λ c a k h makes below. elim (in_either c looked (b ∷ []) h) [
        | inl i ↦ let n = w.spread c a k i makes below in (n.0, r.kept a n.0 n.1)
        | inr i ↦ elim i [ inl e ↦ r.all a (lead.all a k (of_makes g a k c makes).within below (subst (λ c. Makes g a k c) e makes)) | inr bad ↦ absurd bad ]
      ];
      here = record {
        at = λ a h. r.kept a level (w.here.at a h);
        has = λ a h. elim (r.fresh a level h) [ inl e ↦ w.here.has a e | inr f ↦ absurd (omega (arith, f.2)) ];
      };
      after = record {
        at = λ a h. elim (r.only a h) [ inl i ↦ r.kept a (level + 1) (w.after.at a i) | inr k ↦ k ];
        has = λ a h. elim (r.fresh a (level + 1) h) [ inl e ↦ r.still a (w.after.has a e) | inr f ↦ r.listed a (level + 1) f.0 h ];
      };
    }

  -- all types in front are looked at
  module _ (near : List (Option ℕ)) (next : List ℕ) (w : IsBetween g to level front front near next) where
    one_more : (a k next n : ℕ) → Makes g a k next → near_at near next ≡ Some n → n < level → a < length (types g) → (d : ℕ) × (near_at near a ≡ Some d)
    one_more a k next n makes at less below = let p = w.sound next n at in w.complete a (k ∷ p.0) below (next, makes, p.1) (omega (arith, p.2, less))

    next_level : (a : ℕ) (p : List ℕ) → a < length (types g) → Path g a to p → length p ≤ level + 1 → (n : ℕ) × (near_at near a ≡ Some n)
    next_level a [] below r few = w.complete a [] below r (omega arith)
    next_level a (k ∷ q) below r few =
        let lead = of_makes g a k r.0 r.1 in
        let n = w.complete r.0 q lead.made r.2 (omega (arith, few)) in
        elim (below_or n.0 level (omega (arith, w.least r.0 n.0 q n.1 r.2, few))) [
          | inl less ↦ one_more a k r.0 n.0 r.1 n.1 less below
          | inr e ↦ w.spread r.0 a k (w.here.has r.0 (n.1 ∙ ap Some e)) r.1 below
        ]

    pub ends_level : IsAtLevel g to (level + 1) near next
    ends_level = (record { sized = w.sized; sound = w.sound; least = w.least; bounded = w.bounded; complete = next_level }, w.after)

-- ---- all levels

module _ (g : Graph) (to : ℕ) (near : List (Option ℕ)) where
  -- where no type is at the level, none is farther
  pub none_farther : (level : ℕ) → IsNear g to level near → ((a : ℕ) → near_at near a ≡ Some level → ⊥) → IsAllNear g to near
  none_farther level w none = record { sized = w.sized; sound = w.sound; least = w.least; complete = all }
    where
      less : (n : ℕ) (b : ℕ) → near_at near b ≡ Some n → n < level
      less n b h = elim (below_or n level (w.bounded b n h)) [ inl l ↦ l | inr e ↦ absurd (none b (h ∙ ap Some e)) ]

      all : (a : ℕ) (p : List ℕ) → a < length (types g) → Path g a to p → (n : ℕ) × (near_at near a ≡ Some n)
      all a [] below r = w.complete a [] below r (omega arith)
      all a (k ∷ q) below r =
          let n = all r.0 q (of_makes g a k r.0 r.1).made r.2 in
          let p = w.sound r.0 n.0 n.1 in
          w.complete a (k ∷ p.0) below (r.0, r.1, p.1) (omega (arith, p.2, less n.0 r.0 n.1))

  path_route : (q : List ℕ) (a : ℕ) → Path g a to q → Route (maker_edges g) (λ c. is_a g c to) a q
  path_route [] a p = so_is_a g a to p
  path_route (k ∷ q) a p = (p.0, makes_edge g a k p.0 p.1, path_route q p.0 p.2)

  route_path : (q : List ℕ) (a : ℕ) → Route (maker_edges g) (λ c. is_a g c to) a q → Path g a to q
  route_path [] a r = is_a_so g a to r
  route_path (k ∷ q) a r = (r.0, edge_makes g a k r.0 r.1, route_path q r.0 r.2)

  taken_numbered : (a c : ℕ) → IsA g a c → c < length (types g) → IsIn a (numbers g)
  taken_numbered a c (itself b) h = in_below (length (types g)) b h
  taken_numbered a c (by_super b d e s r) h = super_numbered g b d s

  edge_numbered : (a : ℕ) (e : ℕ × ℕ) → IsIn e (maker_edges g a) → IsIn a (numbers g)
  edge_numbered a e h = let m = edge_makes g a e.0 e.1 h in taken_numbered a m.taken m.fits (named_below g m.maker.from m.taken m.takes)

  -- no shortest path is longer than there are types
  pub far_enough : (level : ℕ) → length (types g) ≤ level → IsNear g to level near → IsAllNear g to near
  far_enough level all_levels w = record { sized = w.sized; sound = w.sound; least = w.least; complete = all }
    where
      all : (a : ℕ) (p : List ℕ) → a < length (types g) → Path g a to p → (n : ℕ) × (near_at near a ≡ Some n)
      all a p below r =
          let s = short_route (maker_edges g) (λ c. is_a g c to) (numbers g) edge_numbered p a (path_route p a r) in
          w.complete a s.0 below (route_path s.0 a s.1) (omega (arith, s.2, length-below (length (types g)), all_levels))

pub not_below : (i j : ℕ) → (j < i → ⊥) → i ≤ j
not_below zero j h = omega arith
not_below (suc i) zero h = absurd (h (omega arith))
not_below (suc i) (suc j) h = omega (arith, not_below i j (λ k. h (omega (arith, k))))
