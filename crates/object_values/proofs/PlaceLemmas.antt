-- What stands at the place of a name among sorted pairs, and what an edit there makes of the map.
use Rattle.std.proofs.Common.{◌≡◌, ℕ, zero, suc, ◌<◌, ◌≤◌, inl, inr, [], ◌∷◌, length, cond, not, true, false, Bool, Some, None, IfOk, IfErr, Result, Ok, Err, T, ◌&&◌, slice_index_or, slice_set, refl, sym, ap, subst, ◌∙◌, arith}
use Rattle.std.specs.List.{remove, insert}
use Rattle.std.specs.List.Sorted.{IsSearchInRange, IsBinarySearchResult, IsNonDecreasingBy}
use Rattle.std.specs.Ordering.{nat_cmp, eq_by_cmp, is_eq, is_lt, ordering_index, ordering_reverse}
use Rattle.std.specs.declared.cmp.Ordering.{Ordering}
use Rattle.std.specs.declared.cmp.Ordering.TheVariants.{Less, Equal, Greater}
use Rattle.std.specs.Cmp.Lexicographic.{slice_cmp, nat_list_cmp_total}
use Rattle.std.proofs.lemmas.Bool.{cases_lt}
use Rattle.std.proofs.lemmas.Cmp.{alike_right, eq_by_cmp_equiv}
use Rattle.std.proofs.lemmas.List.Sorted.{IsNonDecreasingBy-from_default}
use Rattle.std.specs.FinMap as map
use Rattle.std.specs.FinMap.Entries.{below_all, where_key, put, by_order, is_sorted-where_key, is_sorted-put, find-where_key}
use Rattle.object_values.specs.Texts.{Text, Texts}
use Rattle.object_values.specs.Places.{Pairs, compared, IsAt, IsGap}

abbrev pub by_bytes : Text → Text → Ordering
by_bytes = slice_cmp nat_cmp

abbrev pub AreSorted : Pairs → Type 0
AreSorted pairs = T (map.is_sorted by_bytes pairs)

-- the pairs whose names don't tie with a name
abbrev pub without : Text → Pairs → Pairs
without name = where_key by_bytes (λ other. not (eq_by_cmp by_bytes name other))

pub both : (a b : Bool) → T a → T b → T (a && b)
both true b p q = q
both false b p q = p

pub first : (a b : Bool) → T (a && b) → T a
first true b p = tt
first false b p = p

pub second : (a b : Bool) → T (a && b) → T b
second true b p = p
second false b p = absurd p

pub less : (order : Ordering) → T (is_lt order) → order ≡ Less
less Less p = refl
less Equal p = absurd p
less Greater p = absurd p

pub is_less : (order : Ordering) → order ≡ Less → T (is_lt order)
is_less order e = subst (λ o. T (is_lt o)) (sym e) tt

pub turned : (a b : Text) (order : Ordering) → by_bytes a b ≡ order → by_bytes b a ≡ ordering_reverse order
turned a b order e = nat_list_cmp_total.antisymm b a ∙ ap ordering_reverse e

-- a name that is below all of a list's is below the one at each place
below_at : (name : Text) (pairs : Pairs) (i : ℕ) (pair : Text × Text) → T (below_all by_bytes name pairs) → i < length pairs → (let other = slice_index_or pairs i pair in by_bytes name other.0 ≡ Less)
below_at name [] i pair below lt = absurd (omega (arith, lt))
below_at name (x ∷ pairs) zero pair below lt = less _ (first _ _ below)
below_at name (x ∷ pairs) (suc i) pair below lt = below_at name pairs i pair (second _ _ below) (omega (arith, lt))

-- of two places the earlier one has the lesser name
rises : (pairs : Pairs) (pair : Text × Text) → AreSorted pairs → (i j : ℕ) → i < j → j < length pairs → (let a = slice_index_or pairs i pair in let b = slice_index_or pairs j pair in by_bytes a.0 b.0 ≡ Less)
rises [] pair sorted i j lt within = absurd (omega (arith, within))
rises (x ∷ pairs) pair sorted i zero lt within = absurd (omega (arith, lt))
rises (x ∷ pairs) pair sorted zero (suc j) lt within = below_at x.0 pairs j pair (first _ _ sorted) (omega (arith, within))
rises (x ∷ pairs) pair sorted (suc i) (suc j) lt within = rises pairs pair (second _ _ sorted) i j (omega (arith, lt)) (omega (arith, within))

-- what compares with a greater name comes out no lesser
pub ranked_by : (a b name : Text) (order : Ordering) → by_bytes b name ≡ order → by_bytes a b ≡ Less → ordering_index (by_bytes a name) ≤ ordering_index order
ranked_by a b name Less e lt = subst (λ o. ordering_index o ≤ 0) (sym (nat_list_cmp_total.trans a b name lt e)) (omega arith)
ranked_by a b name Equal e lt = subst (λ o. ordering_index o ≤ 1) (sym (sym (alike_right nat_list_cmp_total b name a e) ∙ lt)) (omega arith)
ranked_by a b name Greater e lt = at_most_two (by_bytes a name)
  where
    at_most_two : (order : Ordering) → ordering_index order ≤ 2
    at_most_two Less = omega arith
    at_most_two Equal = omega arith
    at_most_two Greater = omega arith

comparisons_rise : (pairs : Pairs) (name : Text) → AreSorted pairs → IsNonDecreasingBy (λ pair. ordering_index (by_bytes pair.0 name)) pairs
comparisons_rise pairs name sorted = IsNonDecreasingBy-from_default (λ pair. ordering_index (by_bytes pair.0 name)) pairs ([], []) (λ i j le within. by_cases i j within (λ lt. ranked_by _ _ name _ refl (rises pairs ([], []) sorted i j lt within)) le)
  where
    by_cases : (i j : ℕ) → j < length pairs → (i < j → ordering_index (compared pairs name i) ≤ ordering_index (compared pairs name j)) → i ≤ j → ordering_index (compared pairs name i) ≤ ordering_index (compared pairs name j)
    by_cases i j within less le = elim (cases_lt i j) [
      | inl lt ↦ less lt
      | inr ge ↦ let same : i ≡ j = omega arith in rw same (omega arith)
    ]

-- a binary search ends at the name's place, or in the gap for it
pub searched : (pairs : Pairs) (name : Text) → AreSorted pairs → (r : Result ℕ ℕ) → IsSearchInRange r (length pairs) → IsBinarySearchResult (λ pair. by_bytes pair.0 name) pairs r → record { found : IfOk r (IsAt pairs name); gap : IfErr r (IsGap pairs name) }
searched pairs name sorted (Ok place) within equal = record { found = record { in_range = within; has_name = equal ([], []) }; gap = tt }
searched pairs name sorted (Err place) within parted =
    let parts = parted (comparisons_rise pairs name sorted) in
    record { found = tt; gap = record { in_range = within; less_before = λ i lt. parts.0 i ([], []) (omega arith) lt; greater_after = λ i le lt. parts.1 i ([], []) le lt } }

-- the name ties with the one at a place, and is greater than those before
pub Stands : Pairs → Text → ℕ → Type 0
Stands [] name place = ⊥
Stands (x ∷ pairs) name zero = by_bytes name x.0 ≡ Equal
Stands (x ∷ pairs) name (suc place) = (by_bytes name x.0 ≡ Greater) × Stands pairs name place

-- the name is greater than those before a place, and less than the one there
pub Parts : Pairs → Text → ℕ → Type 0
Parts [] name zero = Unit {0}
Parts [] name (suc place) = ⊥
Parts (x ∷ pairs) name zero = by_bytes name x.0 ≡ Less
Parts (x ∷ pairs) name (suc place) = (by_bytes name x.0 ≡ Greater) × Parts pairs name place

pub stands : (pairs : Pairs) (name : Text) (place : ℕ) → AreSorted pairs → IsAt pairs name place → Stands pairs name place
unfolding Stands
stands [] name place sorted at = absurd (omega (arith, at.in_range))
stands (x ∷ pairs) name zero sorted at = turned x.0 name Equal at.has_name
stands (x ∷ pairs) name (suc place) sorted at =
    let within : place < length pairs = omega (arith, at.in_range) in
    let here = slice_index_or pairs place ([], []) in
    let lesser : by_bytes x.0 name ≡ Less = sym (alike_right nat_list_cmp_total here.0 name x.0 at.has_name) ∙ below_at x.0 pairs place ([], []) (first _ _ sorted) within in
    (turned x.0 name Less lesser, stands pairs name place (second _ _ sorted) (record { in_range = within; has_name = at.has_name }))

pub parts : (pairs : Pairs) (name : Text) (place : ℕ) → IsGap pairs name place → Parts pairs name place
unfolding Parts
parts [] name zero gap = tt
parts [] name (suc place) gap = absurd (omega (arith, gap.in_range))
parts (x ∷ pairs) name zero gap = turned x.0 name Greater (gap.greater_after 0 (omega arith) (omega arith))
parts (x ∷ pairs) name (suc place) gap = (
  turned x.0 name Less (gap.less_before 0 (omega arith)),
  parts pairs name place (record { in_range = omega (arith, gap.in_range); less_before = λ i lt. gap.less_before (suc i) (omega arith); greater_after = λ i le lt. gap.greater_after (suc i) (omega arith) (omega arith) }),
)

pub below_less : (name other : Text) (pairs : Pairs) → by_bytes name other ≡ Less → T (below_all by_bytes other pairs) → T (below_all by_bytes name pairs)
below_less name other [] lt below = tt
below_less name other (x ∷ pairs) lt below = both _ _ (is_less _ (nat_list_cmp_total.trans name other x.0 lt (less _ (first _ _ below)))) (below_less name other pairs lt (second _ _ below))

below_tied : (name other : Text) (pairs : Pairs) → by_bytes name other ≡ Equal → T (below_all by_bytes other pairs) → T (below_all by_bytes name pairs)
below_tied name other [] tie below = tt
below_tied name other (x ∷ pairs) tie below = both _ _ (is_less _ (nat_list_cmp_total.congr name other x.0 tie ∙ less _ (first _ _ below))) (below_tied name other pairs tie (second _ _ below))

-- a name below all isn't found, and taking it out changes nothing
pub find_below : (name : Text) (pairs : Pairs) → T (below_all by_bytes name pairs) → map.find by_bytes name pairs ≡ None
find_below name [] below = refl
find_below name (x ∷ pairs) below = ap (λ order. cond (is_eq order) (Some x.1) (map.find by_bytes name pairs)) (less _ (first _ _ below)) ∙ find_below name pairs (second _ _ below)

pub without_below : (name : Text) (pairs : Pairs) → T (below_all by_bytes name pairs) → without name pairs ≡ pairs
without_below name [] below = refl
without_below name (x ∷ pairs) below = ap (λ order. cond (not (is_eq order)) (x ∷ without name pairs) (without name pairs)) (less _ (first _ _ below)) ∙ ap (λ rest. x ∷ rest) (without_below name pairs (second _ _ below))

find_at : (pairs : Pairs) (name : Text) (place : ℕ) (pair : Text × Text) → Stands pairs name place → pair ≡ slice_index_or pairs place pair → map.find by_bytes name pairs ≡ Some pair.1
unfolding Stands
find_at [] name place pair here is = absurd here
find_at (x ∷ pairs) name zero pair here is = ap (λ order. cond (is_eq order) (Some x.1) (map.find by_bytes name pairs)) here ∙ ap (λ (y : Text × Text). Some y.1) (sym is)
find_at (x ∷ pairs) name (suc place) pair here is = ap (λ order. cond (is_eq order) (Some x.1) (map.find by_bytes name pairs)) here.0 ∙ find_at pairs name place pair here.1 is

find_gap : (pairs : Pairs) (name : Text) (place : ℕ) → AreSorted pairs → Parts pairs name place → map.find by_bytes name pairs ≡ None
unfolding Parts
find_gap [] name place sorted gap = refl
find_gap (x ∷ pairs) name zero sorted gap = find_below name (x ∷ pairs) (both _ _ (is_less _ gap) (below_less name x.0 pairs gap (first _ _ sorted)))
find_gap (x ∷ pairs) name (suc place) sorted gap = ap (λ order. cond (is_eq order) (Some x.1) (map.find by_bytes name pairs)) gap.0 ∙ find_gap pairs name place (second _ _ sorted) gap.1

pub without_at : (pairs : Pairs) (name : Text) (place : ℕ) → AreSorted pairs → Stands pairs name place → without name pairs ≡ remove pairs place
unfolding Stands
without_at [] name place sorted here = absurd here
without_at (x ∷ pairs) name zero sorted here = ap (λ order. cond (not (is_eq order)) (x ∷ without name pairs) (without name pairs)) here ∙ without_below name pairs (below_tied name x.0 pairs here (first _ _ sorted))
without_at (x ∷ pairs) name (suc place) sorted here = ap (λ order. cond (not (is_eq order)) (x ∷ without name pairs) (without name pairs)) here.0 ∙ ap (λ rest. x ∷ rest) (without_at pairs name place (second _ _ sorted) here.1)

pub without_gap : (pairs : Pairs) (name : Text) (place : ℕ) → AreSorted pairs → Parts pairs name place → without name pairs ≡ pairs
unfolding Parts
without_gap [] name place sorted gap = refl
without_gap (x ∷ pairs) name zero sorted gap = without_below name (x ∷ pairs) (both _ _ (is_less _ gap) (below_less name x.0 pairs gap (first _ _ sorted)))
without_gap (x ∷ pairs) name (suc place) sorted gap = ap (λ order. cond (not (is_eq order)) (x ∷ without name pairs) (without name pairs)) gap.0 ∙ ap (λ rest. x ∷ rest) (without_gap pairs name place (second _ _ sorted) gap.1)

pub put_at : (pairs : Pairs) (name text : Text) (place : ℕ) (pair : Text × Text) → Stands pairs name place → pair ≡ slice_index_or pairs place pair → put by_bytes name text pairs ≡ slice_set pairs place (pair.0, text)
unfolding Stands
put_at [] name text place pair here is = absurd here
put_at (x ∷ pairs) name text zero pair here is = ap (λ order. by_order order ((name, text) ∷ x ∷ pairs) ((x.0, text) ∷ pairs) (x ∷ put by_bytes name text pairs)) here ∙ ap (λ (y : Text × Text). (y.0, text) ∷ pairs) (sym is)
put_at (x ∷ pairs) name text (suc place) pair here is = ap (λ order. by_order order ((name, text) ∷ x ∷ pairs) ((x.0, text) ∷ pairs) (x ∷ put by_bytes name text pairs)) here.0 ∙ ap (λ rest. x ∷ rest) (put_at pairs name text place pair here.1 is)

pub put_gap : (pairs : Pairs) (name text : Text) (place : ℕ) → Parts pairs name place → put by_bytes name text pairs ≡ insert pairs place (name, text)
unfolding Parts
put_gap [] name text zero gap = refl
put_gap [] name text (suc place) gap = absurd gap
put_gap (x ∷ pairs) name text zero gap = ap (λ order. by_order order ((name, text) ∷ x ∷ pairs) ((x.0, text) ∷ pairs) (x ∷ put by_bytes name text pairs)) gap
put_gap (x ∷ pairs) name text (suc place) gap = ap (λ order. by_order order ((name, text) ∷ x ∷ pairs) ((x.0, text) ∷ pairs) (x ∷ put by_bytes name text pairs)) gap.0 ∙ ap (λ rest. x ∷ rest) (put_gap pairs name text place gap.1)

-- a map of pairs
abbrev pub map_of : Pairs → Texts
map_of pairs = map.from_sorted {R = by_bytes} pairs

-- what an edit of sorted pairs leaves, and the map that it makes
pub record Makes (pairs : Pairs) (texts : Texts) : Type 0 where
  pub sorted : AreSorted pairs
  pub made : map_of pairs ≡ texts

pub placed : (pairs new : Pairs) (name text : Text) → AreSorted pairs → put by_bytes name text pairs ≡ new → Makes new (map.insert (map_of pairs) name text)
placed pairs new name text sorted is =
    let still = subst AreSorted is (is_sorted-put by_bytes nat_list_cmp_total name text pairs sorted) in
    record { sorted = still; made = map.same_entries_map _ _ (map.entries-from_sorted by_bytes new still ∙ sym is ∙ ap (put by_bytes name text) (sym (map.entries-from_sorted by_bytes pairs sorted)) ∙ sym (map.entries-insert nat_list_cmp_total (map_of pairs) name text)) }

turned_cond : {A : Type 0} (b : Bool) (x y : A) → cond (not b) x y ≡ cond b y x
turned_cond true x y = refl
turned_cond false x y = refl

pub removed : (pairs new : Pairs) (name : Text) → AreSorted pairs → without name pairs ≡ new → Makes new (map.remove (map_of pairs) name)
removed pairs new name sorted is =
    let still = subst AreSorted is (is_sorted-where_key by_bytes (λ other. not (eq_by_cmp by_bytes name other)) pairs sorted) in
    record {
      sorted = still;
      made = map.same_map nat_list_cmp_total (map.slice_cmp-IsAntisymmetric map.nat_cmp-IsAntisymmetric) _ _ (λ asked.
          map.get-from_sorted by_bytes new asked still
          ∙ ap (map.find by_bytes asked) (sym is)
          ∙ find-where_key by_bytes (λ other. not (eq_by_cmp by_bytes name other)) asked (λ other tie. ap (λ order. not (is_eq order)) (sym (alike_right nat_list_cmp_total asked other name tie))) pairs
          ∙ turned_cond (eq_by_cmp by_bytes name asked) _ _
          ∙ ap (λ b. cond b None (map.find by_bytes asked pairs)) ((eq_by_cmp_equiv nat_list_cmp_total).symm name asked)
          ∙ sym (map.get-remove nat_list_cmp_total (map_of pairs) name asked ∙ ap (cond (eq_by_cmp by_bytes asked name) None) (map.get-from_sorted by_bytes pairs asked sorted)));
    }

module _ (pairs : Pairs) (sorted : AreSorted pairs) (name : Text) (place : ℕ) (at : IsAt pairs name place) where
  -- the text at the name's place is the name's
  pub found : (pair : Text × Text) → pair ≡ slice_index_or pairs place pair → map.get (map_of pairs) name ≡ Some pair.1
  found pair is = map.get-from_sorted by_bytes pairs name sorted ∙ find_at pairs name place pair (stands pairs name place sorted at) is

module _ (pairs : Pairs) (sorted : AreSorted pairs) (name : Text) (place : ℕ) (gap : IsGap pairs name place) where
  -- a name with a gap isn't there
  pub missing : map.get (map_of pairs) name ≡ None
  missing = map.get-from_sorted by_bytes pairs name sorted ∙ find_gap pairs name place sorted (parts pairs name place gap)
