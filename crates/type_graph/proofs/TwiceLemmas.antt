-- A name that stands twice, found name by name.
use Rattle.std.proofs.Common.{◌≡◌, ◌||◌, ◌<◌, ◌≤◌, ◌+◌, ℕ, Bool, true, false, List, [], ◌∷◌, ◌++◌, refl, sym, ap, ◌∙◌, subst, length, take, drop, get_or, arith, map, true≢false, inl, inr}
use Rattle.std.specs.Prelude.{Some, bytes_eq, is_some, option_map}
use Rattle.std.specs.List.{list_any}
use Rattle.std.proofs.lemmas.List.{take_more, take-append-drop, take_all, length-take-le}
use Rattle.std.proofs.lemmas.List.Folds.{list_any-append}
use Rattle.std.proofs.lemmas.Option.{slice_get-map, slice_get-get_or, get_or_from_slice_get}
use Rattle.object_values.specs.declared.graph.PartDecl.{PartDecl}
use Rattle.meaning_graph.specs.Graphs.{Text}
use Rattle.meaning_graph.specs.Checks.{has_twice}
use Rattle.std.proofs.lemmas.Bool.{or_cases, or_left, or_right}
use Rattle.type_graph.specs.Places.{Places, place_of, with_place, AreOf}
use Rattle.type_graph.proofs.TableLemmas.{is_some-position}
use Rattle.type_graph.proofs.SpaceLemmas.{one_more_name}

sorted_out : (a b c d : Bool) → ((a || (b || false)) || (c || d)) ≡ ((a || c) || (b || d))
sorted_out true b c d = refl
sorted_out false true true d = refl
sorted_out false true false d = refl
sorted_out false false true d = refl
sorted_out false false false d = refl

pub twice-push : (xs : List Text) (x : Text) → has_twice (xs ++ x ∷ []) ≡ (has_twice xs || list_any (λ y. bytes_eq y x) xs)
twice-push [] x = refl
twice-push (y ∷ ys) x =
    ap (λ b. b || has_twice (ys ++ x ∷ [])) (list_any-append (bytes_eq y) ys (x ∷ [])) ∙ ap (λ b. (list_any (bytes_eq y) ys || (bytes_eq y x || false)) || b) (twice-push ys x)
    ∙ sorted_out (list_any (bytes_eq y) ys) (bytes_eq y x) (has_twice ys) (list_any (λ z. bytes_eq z x) ys)

any_front : (p : Text → Bool) (xs ys : List Text) → list_any p xs ≡ true → list_any p (xs ++ ys) ≡ true
any_front p xs ys h = list_any-append p xs ys ∙ or_left (list_any p xs) (list_any p ys) h

pub twice_front : (xs ys : List Text) → has_twice xs ≡ true → has_twice (xs ++ ys) ≡ true
twice_front [] ys h = absurd (true≢false (sym h))
twice_front (x ∷ xs) ys h = elim (or_cases (list_any (bytes_eq x) xs) (has_twice xs) h) [
  | inl a ↦ or_left (list_any (bytes_eq x) (xs ++ ys)) (has_twice (xs ++ ys)) (any_front (bytes_eq x) xs ys a)
  | inr b ↦ or_right (list_any (bytes_eq x) (xs ++ ys)) (has_twice (xs ++ ys)) (twice_front xs ys b)
]

-- The names so far are all different, and stand in the table.
pub record AreApart (names : List Text) (i : ℕ) (table : Places) : Type 0 where
  pub are : AreOf table (take i names)
  pub apart : has_twice (take i names) ≡ false

pub none_apart : (names : List Text) → AreApart names 0 []
none_apart names = record { are = λ name. refl; apart = refl }

module _ (names : List Text) (i : ℕ) (table : Places) (so_far : AreApart names i table) (below : i < length names) (name : Text) (is : get_or names i [] ≡ name) where
  stands : is_some (place_of table name) ≡ list_any (λ n. bytes_eq n name) (take i names)
  stands = ap is_some (so_far.are name) ∙ is_some-position (λ n. bytes_eq n name) (take i names)

  grown : take (i + 1) names ≡ take i names ++ name ∷ []
  grown = take_more names i [] below ∙ ap (λ n. take i names ++ n ∷ []) is

  -- a name that is there already stands twice
  pub found_twice : is_some (place_of table name) ≡ true → true ≡ has_twice names
  found_twice h =
      let both : has_twice (take (i + 1) names) ≡ true = ap has_twice grown ∙ twice-push (take i names) name ∙ or_right (has_twice (take i names)) (list_any (λ y. bytes_eq y name) (take i names)) (sym stands ∙ h) in
      sym (ap has_twice (sym (take-append-drop (i + 1) names)) ∙ twice_front (take (i + 1) names) (drop (i + 1) names) both)

  -- a name that is new is kept
  pub found_new : is_some (place_of table name) ≡ false → AreApart names (i + 1) (with_place table name i)
  found_new h =
      let long : length (take i names) ≡ i = length-take-le i names (omega (arith, below)) in
      record {
        are = subst (AreOf (with_place table name i)) (sym grown) (subst (λ n. AreOf (with_place table name n) (take i names ++ name ∷ [])) long (one_more_name table (take i names) so_far.are name));
        apart = ap has_twice grown ∙ twice-push (take i names) name ∙ ap (λ b. b || list_any (λ y. bytes_eq y name) (take i names)) so_far.apart ∙ sym stands ∙ h;
      }

-- all names are different
pub all_apart : (names : List Text) (i : ℕ) (table : Places) → AreApart names i table → length names ≤ i → false ≡ has_twice names
all_apart names i table so_far past = sym (ap has_twice (sym (take_all i names past)) ∙ so_far.apart)

-- the name of a part at its place
pub part_name_at : (parts : List PartDecl) (i : ℕ) (part : PartDecl) → i < length parts → part ≡ get_or parts i part → get_or (map (λ (p : PartDecl). p.name) parts) i [] ≡ part.name
part_name_at parts i part below is = get_or_from_slice_get (map (λ (p : PartDecl). p.name) parts) i part.name [] (slice_get-map (λ (p : PartDecl). p.name) parts i ∙ ap (option_map (λ (p : PartDecl). p.name)) (slice_get-get_or parts i part below ∙ ap Some (sym is)))
