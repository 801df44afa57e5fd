-- The table of distances, and what its rows say.
use Rattle.std.proofs.Common.{◌≡◌, ℕ, zero, suc, ◌+◌, ◌<◌, inl, inr, List, [], ◌∷◌, ◌++◌, sym, ap, ◌∙◌, subst, refl, length, arith, slice_index_or}
use Rattle.std.specs.Prelude.{Option, Some, None, MatchOption, option_map}
use Rattle.meaning_graph.specs.Graphs.{Graph, types}
use Rattle.meaning_graph.specs.Paths.{Path, Chosen, HasNoPath, chosen_path}
use Rattle.meaning_texts.proofs.Lemmas.{same_some}
use Rattle.meaning_graph.proofs.Lemmas.{path_chosen}
use Rattle.path_planner.specs.Ends.{distance, near_from, nears_to, rows_of}
use Rattle.path_planner.specs.Near.{near_at, IsAllNear}
use Rattle.path_planner.proofs.NearLemmas.{near_within, below_or}
use Rattle.path_planner.proofs.RouteLemmas.{none_is, far_away, chosen_length, not_longer}
use Rattle.path_planner.proofs.SourceLemmas.{last_of, before_last, one_longer}

-- ---- a row

length_row : (g : Graph) (to from count : ℕ) → length (near_from g to from count) ≡ count
length_row g to from zero = refl
length_row g to from (suc count) = ap suc (length_row g to (suc from) count)

row_at : (g : Graph) (to from count a : ℕ) → a < count → near_at (near_from g to from count) a ≡ distance g (from + a) to
row_at g to from zero a lt = absurd (omega (arith, lt))
row_at g to from (suc count) zero lt = let same : from ≡ from + 0 = omega arith in ap (λ n. distance g n to) same
row_at g to from (suc count) (suc a) lt = let same : suc from + a ≡ from + suc a = omega arith in row_at g to (suc from) count a (omega (arith, lt)) ∙ ap (λ n. distance g n to) same

same_row : (g : Graph) (to from count : ℕ) (near : List (Option ℕ)) → length near ≡ count → ((a : ℕ) → a < count → near_at near a ≡ distance g (from + a) to) → near ≡ near_from g to from count
same_row g to from zero [] sized at = refl
same_row g to from zero (x ∷ xs) sized at = absurd (omega (arith, sized))
same_row g to from (suc count) [] sized at = absurd (omega (arith, sized))
same_row g to from (suc count) (x ∷ xs) sized at =
    let same : from + 0 ≡ from = omega arith in
    let head : x ≡ distance g from to = at 0 (omega arith) ∙ ap (λ n. distance g n to) same in
    let rest : xs ≡ near_from g to (suc from) count = same_row g to (suc from) count xs (omega (arith, sized)) (λ a lt. let on : from + suc a ≡ suc from + a = omega arith in at (suc a) (omega (arith, lt)) ∙ ap (λ n. distance g n to) on) in
    ap (λ y. y ∷ xs) head ∙ ap (λ ys. distance g from to ∷ ys) rest

module _ (g : Graph) (to : ℕ) where
  -- the distance is that of the chosen path
  module _ (near : List (Option ℕ)) (w : IsAllNear g to near) where
    by_chosen : (a n : ℕ) → near_at near a ≡ Some n → (o : Option (List ℕ)) → MatchOption o (HasNoPath g a to) (Chosen g a to) → option_map length o ≡ Some n
    by_chosen a n h None none = let p = w.sound a n h in absurd (none p.0 p.1)
    by_chosen a n h (Some p) chosen = ap Some (chosen_length g to near w a n p h chosen)

    distance_is : (a : ℕ) → a < length (types g) → (o : Option ℕ) → near_at near a ≡ o → o ≡ distance g a to
    distance_is a below None h = ap (option_map length) (none_is g a to (far_away g to near w a below h))
    distance_is a below (Some n) h = sym (by_chosen a n h (chosen_path g a to) (path_chosen g a to))

    pub row_is : near ≡ near_from g to 0 (length (types g))
    row_is = same_row g to 0 (length (types g)) near w.sized (λ a lt. let same : a ≡ 0 + a = omega arith in distance_is a lt (near_at near a) refl ∙ ap (λ n. distance g n to) same)

  abbrev row : List (Option ℕ)
  row = near_from g to 0 (length (types g))

  row_says : (a : ℕ) → a < length (types g) → near_at row a ≡ distance g a to
  row_says a lt = let same : 0 + a ≡ a = omega arith in row_at g to 0 (length (types g)) a lt ∙ ap (λ n. distance g n to) same

  row_within : (a n : ℕ) → near_at row a ≡ Some n → a < length (types g)
  row_within a n h = let lt = near_within row a n h in omega (arith, lt, length_row g to 0 (length (types g)))

  found : (a n : ℕ) (o : Option (List ℕ)) → MatchOption o (HasNoPath g a to) (Chosen g a to) → option_map length o ≡ Some n → (p : List ℕ) × Chosen g a to p × (length p ≡ n)
  found a n None none h = cc
  found a n (Some p) chosen h = (p, chosen, same_some h)

  found_at : (a n : ℕ) → near_at row a ≡ Some n → (p : List ℕ) × Chosen g a to p × (length p ≡ n)
  found_at a n h = found a n (chosen_path g a to) (path_chosen g a to) (sym (row_says a (row_within a n h)) ∙ h)

  some_distance : (a : ℕ) (p : List ℕ) → Path g a to p → (o : Option (List ℕ)) → MatchOption o (HasNoPath g a to) (Chosen g a to) → (n : ℕ) × (option_map length o ≡ Some n)
  some_distance a p path None none = absurd (none p path)
  some_distance a p path (Some q) chosen = (length q, refl)

  -- a row's distances are those of the shortest paths
  pub row_is_near : IsAllNear g to (near_from g to 0 (length (types g)))
  row_is_near = record {
    sized = length_row g to 0 (length (types g));
    sound = λ a n h. let f = found_at a n h in (f.0, f.1.path, f.2);
    least = λ a n p h path. let f = found_at a n h in omega (arith, f.2, not_longer f.0 p (f.1.least p path));
    complete = λ a p below path. let d = some_distance a p path (chosen_path g a to) (path_chosen g a to) in (d.0, row_says a below ∙ d.1);
  }

-- ---- tables

pub length_rows : {A : Type 0} (row : ℕ → A) (count : ℕ) → length (rows_of row count) ≡ count
length_rows row zero = refl
length_rows row (suc count) = one_longer (rows_of row count) (row count) ∙ (let rest = length_rows row count in omega (arith, rest))

row_of : {A : Type 0} (row : ℕ → A) (count i : ℕ) (d : A) → i < count → slice_index_or (rows_of row count) i d ≡ row i
row_of row zero i d lt = absurd (omega (arith, lt))
row_of row (suc count) i d lt = elim (below_or i count (omega (arith, lt))) [
  | inl l ↦ before_last (rows_of row count) (row count) d i (omega (arith, l, length_rows row count)) ∙ row_of row count i d l
  | inr e ↦
      ap (λ n. slice_index_or (rows_of row (suc count)) n d) (e ∙ sym (length_rows row count))
      ∙ last_of (rows_of row count) (row count) d ∙ ap row (sym e)
]

-- what is read of a table
pub read_row : {A : Type 0} (row : ℕ → A) (count i : ℕ) (rows : List A) (x : A) → rows ≡ rows_of row count → i < count → x ≡ slice_index_or rows i x → x ≡ row i
read_row {A} row count i rows x made lt is = is ∙ ap (λ (rs : List A). slice_index_or rs i x) made ∙ row_of row count i x lt

pub one_row : {A : Type 0} (row : ℕ → A) (count next : ℕ) (x : A) (rows : List A) → suc count ≡ next → rows ≡ rows_of row count → x ≡ row count → rows ++ x ∷ [] ≡ rows_of row next
one_row {A} row count next x rows is so_far same =
    ap (λ (rs : List A). rs ++ x ∷ []) so_far ∙ ap (λ y. rows_of row count ++ y ∷ []) same ∙ ap (rows_of row) is

pub more_rows : (g : Graph) (count next : ℕ) (near : List (Option ℕ)) (rows : List (List (Option ℕ))) → suc count ≡ next → rows ≡ nears_to g count → IsAllNear g count near → rows ++ near ∷ [] ≡ nears_to g next
more_rows g count next near rows is so_far w = one_row (λ to. near_from g to 0 (length (types g))) count next near rows is so_far (row_is g count near w)

-- a row of distances that is read
pub row_read : (g : Graph) (to : ℕ) (rows : List (List (Option ℕ))) (near : List (Option ℕ)) → rows ≡ nears_to g (length (types g)) → to < length (types g) → near ≡ slice_index_or rows to near → IsAllNear g to near
row_read g to rows near made below is = subst (IsAllNear g to) (sym (read_row (λ n. near_from g n 0 (length (types g))) (length (types g)) to rows near made below is)) (row_is_near g to)
