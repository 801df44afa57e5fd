-- Sorted pairs in blocks: the block to which a name belongs, and what an edit of it makes of the map.
use Rattle.std.proofs.Common.{◌≡◌, ℕ, zero, suc, ◌+◌, ◌-◌, ◌<◌, ◌≤◌, ◌⊎◌, inl, inr, ◌^◌, min, List, [], ◌∷◌, ◌++◌, length, take, drop, reverse, cond, not, true, false, Option, Some, None, IsSome, Result, Ok, Err, T, slice_index_or, slice_get, slice_set, refl, sym, ap, subst, ◌∙◌, arith, rules}
use Rattle.std.specs.List.{remove, insert}
use Rattle.std.proofs.lemmas.List.{reverse-append}
use Rattle.std.specs.List.Sorted.{IsSearchInRange, IsBinarySearchResult, IsNonDecreasingBy}
use Rattle.std.specs.Ordering.{eq_by_cmp, is_eq, ordering_index}
use Rattle.std.specs.declared.cmp.Ordering.{Ordering}
use Rattle.std.specs.declared.cmp.Ordering.TheVariants.{Less, Equal, Greater}
use Rattle.std.specs.Cmp.Lexicographic.{nat_list_cmp_total}
use Rattle.std.proofs.Math.Nat.{min-le_left, min-le_right}
use Rattle.std.proofs.lemmas.Bool.{cases_lt}
use Rattle.std.proofs.lemmas.Cmp.{alike_right}
use Rattle.std.proofs.lemmas.List.Sorted.{IsNonDecreasingBy-from_default}
use Rattle.std.specs.FinMap as map
use Rattle.std.specs.FinMap.Entries.{below_all, put, by_order}
use Rattle.object_values.specs.Texts.{Text}
use Rattle.object_values.specs.Places.{Pairs, IsAt, IsGap}
use Rattle.object_values.specs.Blocks.{joined, AreBlocks, AreFilled, AreLess, Belongs, IsBlockOf, IsSpare, first_of, room_left}
use Rattle.object_values.proofs.PlaceLemmas.{by_bytes, AreSorted, Makes, map_of, without, both, first, second, less, is_less, turned, ranked_by, stands, parts, below_less, find_below, without_below, without_at, without_gap, put_at, put_gap, placed, removed}

-- ---- two lists in a row

below_front : (name : Text) (xs ys : Pairs) → T (below_all by_bytes name (xs ++ ys)) → T (below_all by_bytes name xs)
below_front name [] ys below = tt
below_front name (x ∷ xs) ys below = both _ _ (first _ _ below) (below_front name xs ys (second _ _ below))

below_end : (name : Text) (xs ys : Pairs) → T (below_all by_bytes name (xs ++ ys)) → T (below_all by_bytes name ys)
below_end name [] ys below = below
below_end name (x ∷ xs) ys below = below_end name xs ys (second _ _ below)

sorted_front : (xs ys : Pairs) → AreSorted (xs ++ ys) → AreSorted xs
sorted_front [] ys sorted = tt
sorted_front (x ∷ xs) ys sorted = both _ _ (below_front x.0 xs ys (first _ _ sorted)) (sorted_front xs ys (second _ _ sorted))

sorted_end : (xs ys : Pairs) → AreSorted (xs ++ ys) → AreSorted ys
sorted_end [] ys sorted = sorted
sorted_end (x ∷ xs) ys sorted = sorted_end xs ys (second _ _ sorted)

length_joins : (xs ys : Pairs) → length (xs ++ ys) ≡ length xs + length ys
length_joins [] ys = omega arith
length_joins (x ∷ xs) ys = let rest = length_joins xs ys in omega (arith, rest)

joins_twice : (xs ys zs : Pairs) → xs ++ (ys ++ zs) ≡ (xs ++ ys) ++ zs
joins_twice [] ys zs = refl
joins_twice (x ∷ xs) ys zs = ap (λ rest. x ∷ rest) (joins_twice xs ys zs)

-- names that are less than the one
find_past : (xs ys : Pairs) (name : Text) → AreLess xs name → map.find by_bytes name (xs ++ ys) ≡ map.find by_bytes name ys
find_past [] ys name lesser = refl
find_past (x ∷ xs) ys name lesser = ap (λ order. cond (is_eq order) (Some x.1) (map.find by_bytes name (xs ++ ys))) lesser.0 ∙ find_past xs ys name lesser.1

put_past : (xs ys : Pairs) (name text : Text) → AreLess xs name → put by_bytes name text (xs ++ ys) ≡ xs ++ put by_bytes name text ys
put_past [] ys name text lesser = refl
put_past (x ∷ xs) ys name text lesser =
    ap (λ order. by_order order ((name, text) ∷ x ∷ (xs ++ ys)) ((x.0, text) ∷ (xs ++ ys)) (x ∷ put by_bytes name text (xs ++ ys))) lesser.0
    ∙ ap (λ rest. x ∷ rest) (put_past xs ys name text lesser.1)

without_past : (xs ys : Pairs) (name : Text) → AreLess xs name → without name (xs ++ ys) ≡ xs ++ without name ys
without_past [] ys name lesser = refl
without_past (x ∷ xs) ys name lesser = ap (λ order. cond (not (is_eq order)) (x ∷ without name (xs ++ ys)) (without name (xs ++ ys))) lesser.0 ∙ ap (λ rest. x ∷ rest) (without_past xs ys name lesser.1)

-- names that are greater
find_within : (xs ys : Pairs) (name : Text) → T (below_all by_bytes name ys) → map.find by_bytes name (xs ++ ys) ≡ map.find by_bytes name xs
find_within [] ys name below = find_below name ys below
find_within (x ∷ xs) ys name below = ap (λ found. cond (eq_by_cmp by_bytes name x.0) (Some x.1) found) (find_within xs ys name below)

put_below : (ys : Pairs) (name text : Text) → T (below_all by_bytes name ys) → put by_bytes name text ys ≡ (name, text) ∷ ys
put_below [] name text below = refl
put_below (y ∷ ys) name text below = ap (λ order. by_order order ((name, text) ∷ y ∷ ys) ((y.0, text) ∷ ys) (y ∷ put by_bytes name text ys)) (less _ (first _ _ below))

put_within : (xs ys : Pairs) (name text : Text) → T (below_all by_bytes name ys) → put by_bytes name text (xs ++ ys) ≡ put by_bytes name text xs ++ ys
put_within [] ys name text below = put_below ys name text below
put_within (x ∷ xs) ys name text below =
    let rest = put_within xs ys name text below in
    elim (by_bytes name x.0) as (λ order. by_order order ((name, text) ∷ x ∷ (xs ++ ys)) ((x.0, text) ∷ (xs ++ ys)) (x ∷ put by_bytes name text (xs ++ ys)) ≡ by_order order ((name, text) ∷ x ∷ xs) ((x.0, text) ∷ xs) (x ∷ put by_bytes name text xs) ++ ys) [
      | Less ↦ refl
      | Equal ↦ refl
      | Greater ↦ ap (λ r. x ∷ r) rest
    ]

without_within : (xs ys : Pairs) (name : Text) → T (below_all by_bytes name ys) → without name (xs ++ ys) ≡ without name xs ++ ys
without_within [] ys name below = without_below name ys below
without_within (x ∷ xs) ys name below =
    let rest = without_within xs ys name below in
    elim (not (eq_by_cmp by_bytes name x.0)) as (λ b. cond b (x ∷ without name (xs ++ ys)) (without name (xs ++ ys)) ≡ cond b (x ∷ without name xs) (without name xs) ++ ys) [
      | true ↦ ap (λ r. x ∷ r) rest
      | false ↦ rest
    ]

-- ---- the search for a block

-- a name that is below all is below the first one of each block
first_below : (a : Text) (blocks : List Pairs) (at : ℕ) → AreFilled blocks → at < length blocks → T (below_all by_bytes a (joined blocks)) → by_bytes a (first_of (slice_index_or blocks at [])) ≡ Less
first_below a [] at filled lt below = absurd (omega (arith, lt))
first_below a ([] ∷ blocks) zero filled lt below = absurd (omega (arith, filled.0))
first_below a ((x ∷ xs) ∷ blocks) zero filled lt below = less _ (first _ _ below)
first_below a (block ∷ blocks) (suc at) filled lt below = first_below a blocks at filled.1 (omega (arith, lt)) (below_end a block (joined blocks) below)

firsts_rise : (blocks : List Pairs) → AreSorted (joined blocks) → AreFilled blocks → (i j : ℕ) → i < j → j < length blocks → by_bytes (first_of (slice_index_or blocks i [])) (first_of (slice_index_or blocks j [])) ≡ Less
firsts_rise [] sorted filled i j lt within = absurd (omega (arith, within))
firsts_rise (block ∷ blocks) sorted filled i zero lt within = absurd (omega (arith, lt))
firsts_rise ([] ∷ blocks) sorted filled zero (suc j) lt within = absurd (omega (arith, filled.0))
firsts_rise ((x ∷ xs) ∷ blocks) sorted filled zero (suc j) lt within = first_below x.0 blocks j filled.1 (omega (arith, within)) (below_end x.0 xs (joined blocks) (first _ _ sorted))
firsts_rise (block ∷ blocks) sorted filled (suc i) (suc j) lt within = firsts_rise blocks (sorted_end block (joined blocks) sorted) filled.1 i j (omega (arith, lt)) (omega (arith, within))

comparisons_rise : (blocks : List Pairs) (name : Text) → AreSorted (joined blocks) → AreFilled blocks → IsNonDecreasingBy (λ block. ordering_index (by_bytes (first_of block) name)) blocks
comparisons_rise blocks name sorted filled = IsNonDecreasingBy-from_default (λ block. ordering_index (by_bytes (first_of block) name)) blocks [] (λ i j le within. by_cases i j within (λ lt. ranked_by _ _ name _ refl (firsts_rise blocks sorted filled i j lt within)) le)
  where
    rank : ℕ → ℕ
    rank i = ordering_index (by_bytes (first_of (slice_index_or blocks i [])) name)

    by_cases : (i j : ℕ) → j < length blocks → (i < j → rank i ≤ rank j) → i ≤ j → rank i ≤ rank j
    by_cases i j within less le = elim (cases_lt i j) [
      | inl lt ↦ less lt
      | inr ge ↦ let same : i ≡ j = omega arith in rw same (omega arith)
    ]

-- less than a name that isn't greater than the one
lesser_through : (a b name : Text) (order : Ordering) → by_bytes b name ≡ order → by_bytes a b ≡ Less → ordering_index order ≤ 1 → by_bytes a name ≡ Less
lesser_through a b name Less e lt low = nat_list_cmp_total.trans a b name lt e
lesser_through a b name Equal e lt low = sym (alike_right nat_list_cmp_total b name a e) ∙ lt
lesser_through a b name Greater e lt low = absurd (omega (arith, low))

less_block : (block : Pairs) (blocks : List Pairs) (name : Text) (at : ℕ) → AreFilled blocks → at < length blocks → AreSorted (block ++ joined blocks) → ordering_index (by_bytes (first_of (slice_index_or blocks at [])) name) ≤ 1 → AreLess block name
less_block [] blocks name at filled lt sorted low = tt
less_block (x ∷ xs) blocks name at filled lt sorted low =
    let before = first_below x.0 blocks at filled lt (below_end x.0 xs (joined blocks) (first _ _ sorted)) in
    (turned x.0 name Less (lesser_through x.0 _ name _ refl before low), less_block xs blocks name at filled lt (second _ _ sorted) low)

greater_all : (blocks : List Pairs) (name : Text) → AreFilled blocks → AreSorted (joined blocks) → ((i : ℕ) → i < length blocks → by_bytes (first_of (slice_index_or blocks i [])) name ≡ Greater) → T (below_all by_bytes name (joined blocks))
greater_all [] name filled sorted high = tt
greater_all ([] ∷ blocks) name filled sorted high = absurd (omega (arith, filled.0))
greater_all ((x ∷ xs) ∷ blocks) name filled sorted high =
    let lt : by_bytes name x.0 ≡ Less = turned x.0 name Greater (high 0 (omega arith)) in
    both _ _ (is_less _ lt) (below_less name x.0 (xs ++ joined blocks) lt (first _ _ sorted))

belongs_at : (blocks : List Pairs) (name : Text) (at : ℕ) → AreFilled blocks → AreSorted (joined blocks) → at < length blocks
    → (1 ≤ at → ordering_index (by_bytes (first_of (slice_index_or blocks at [])) name) ≤ 1)
    → ((i : ℕ) → at < i → i < length blocks → by_bytes (first_of (slice_index_or blocks i [])) name ≡ Greater) → Belongs blocks name at
belongs_at [] name at filled sorted lt low high = absurd (omega (arith, lt))
belongs_at (block ∷ blocks) name zero filled sorted lt low high = greater_all blocks name filled.1 (sorted_end block (joined blocks) sorted) (λ i within. high (suc i) (omega arith) (omega (arith, within)))
belongs_at (block ∷ blocks) name (suc at) filled sorted lt low high = (
  less_block block blocks name at filled.1 (omega (arith, lt)) sorted (low (omega arith)),
  belongs_at blocks name at filled.1 (sorted_end block (joined blocks) sorted) (omega (arith, lt)) (λ _. low (omega arith)) (λ i later within. high (suc i) (omega (arith, later)) (omega (arith, within))),
)

-- the block that a search by first names tells
abbrev pub block_at : Result ℕ ℕ → ℕ
block_at (Ok at) = at
block_at (Err next) = next - 1

pub searched_block : (blocks : List Pairs) (name : Text) → AreSorted (joined blocks) → AreFilled blocks → 1 ≤ length blocks → (r : Result ℕ ℕ) → IsSearchInRange r (length blocks) → IsBinarySearchResult (λ block. by_bytes (first_of block) name) blocks r → IsBlockOf blocks name (block_at r)
searched_block blocks name sorted filled some (Ok at) within equal =
    let tie : by_bytes (first_of (slice_index_or blocks at [])) name ≡ Equal = equal [] in
    record {
      in_range = within;
      belongs = belongs_at blocks name at filled sorted within (λ _. subst (λ o. ordering_index o ≤ 1) (sym tie) (omega arith)) (λ i later below.
          sym (alike_right nat_list_cmp_total (first_of (slice_index_or blocks at [])) name (first_of (slice_index_or blocks i [])) tie) ∙ turned (first_of (slice_index_or blocks at [])) (first_of (slice_index_or blocks i [])) Less (firsts_rise blocks sorted filled at i later below));
    }
searched_block blocks name sorted filled some (Err next) within parted =
    let parts = parted (comparisons_rise blocks name sorted filled) in
    let below : next - 1 < length blocks = omega (arith, within, some) in
    let last : 1 ≤ next - 1 → next - 1 < next = λ later. omega (arith, later) in
    record {
      in_range = below;
      belongs = belongs_at blocks name (next - 1) filled sorted below
          (λ later. subst (λ o. ordering_index o ≤ 1) (sym (parts.0 (next - 1) [] (omega arith) (last later))) (omega arith))
          (λ i later inside. parts.1 i [] (omega (arith, later)) inside);
    }

-- ---- a block among blocks

sorted_block : (blocks : List Pairs) (at : ℕ) → AreSorted (joined blocks) → at < length blocks → AreSorted (slice_index_or blocks at [])
sorted_block [] at sorted lt = absurd (omega (arith, lt))
sorted_block (block ∷ blocks) zero sorted lt = sorted_front block (joined blocks) sorted
sorted_block (block ∷ blocks) (suc at) sorted lt = sorted_block blocks at (sorted_end block (joined blocks) sorted) (omega (arith, lt))

find_block : (blocks : List Pairs) (name : Text) (at : ℕ) → Belongs blocks name at → map.find by_bytes name (joined blocks) ≡ map.find by_bytes name (slice_index_or blocks at [])
find_block [] name at belongs = absurd belongs
find_block (block ∷ blocks) name zero belongs = find_within block (joined blocks) name belongs
find_block (block ∷ blocks) name (suc at) belongs = find_past block (joined blocks) name belongs.0 ∙ find_block blocks name at belongs.1

put_block : (blocks : List Pairs) (name text : Text) (at : ℕ) → Belongs blocks name at → put by_bytes name text (joined blocks) ≡ joined (slice_set blocks at (put by_bytes name text (slice_index_or blocks at [])))
put_block [] name text at belongs = absurd belongs
put_block (block ∷ blocks) name text zero belongs = put_within block (joined blocks) name text belongs
put_block (block ∷ blocks) name text (suc at) belongs = put_past block (joined blocks) name text belongs.0 ∙ ap (λ rest. block ++ rest) (put_block blocks name text at belongs.1)

without_block : (blocks : List Pairs) (name : Text) (at : ℕ) → Belongs blocks name at → without name (joined blocks) ≡ joined (slice_set blocks at (without name (slice_index_or blocks at [])))
without_block [] name at belongs = absurd belongs
without_block (block ∷ blocks) name zero belongs = without_within block (joined blocks) name belongs
without_block (block ∷ blocks) name (suc at) belongs = without_past block (joined blocks) name belongs.0 ∙ ap (λ rest. block ++ rest) (without_block blocks name at belongs.1)

set_same : (blocks : List Pairs) (at : ℕ) → at < length blocks → joined (slice_set blocks at (slice_index_or blocks at [])) ≡ joined blocks
set_same [] at lt = absurd (omega (arith, lt))
set_same (block ∷ blocks) zero lt = refl
set_same (block ∷ blocks) (suc at) lt = ap (λ rest. block ++ rest) (set_same blocks at (omega (arith, lt)))

pub length_set : (blocks : List Pairs) (at : ℕ) (block : Pairs) → at < length blocks → length (joined (slice_set blocks at block)) + length (slice_index_or blocks at []) ≡ length (joined blocks) + length block
length_set [] at block lt = absurd (omega (arith, lt))
length_set (x ∷ xs) zero block lt = let a = length_joins block (joined xs) in let b = length_joins x (joined xs) in omega (arith, a, b)
length_set (x ∷ xs) (suc at) block lt =
    let a = length_joins x (joined (slice_set xs at block)) in
    let b = length_joins x (joined xs) in
    let rest = length_set xs at block (omega (arith, lt)) in
    omega (arith, a, b, rest)

pub filled_set : (blocks : List Pairs) (at : ℕ) (block : Pairs) → AreFilled blocks → 1 ≤ length block → AreFilled (slice_set blocks at block)
filled_set [] at block filled some = filled
filled_set (x ∷ xs) zero block filled some = (some, filled.1)
filled_set (x ∷ xs) (suc at) block filled some = (filled.0, filled_set xs at block filled.1 some)

filled_at : (blocks : List Pairs) (at : ℕ) → AreFilled blocks → at < length blocks → 1 ≤ length (slice_index_or blocks at [])
filled_at [] at filled lt = absurd (omega (arith, lt))
filled_at (x ∷ xs) zero filled lt = filled.0
filled_at (x ∷ xs) (suc at) filled lt = filled_at xs at filled.1 (omega (arith, lt))

-- a block in two parts
split_after : (blocks : List Pairs) (at : ℕ) (front back : Pairs) → at < length blocks → joined (insert (slice_set blocks at front) (suc at) back) ≡ joined (slice_set blocks at (front ++ back))
split_after [] at front back lt = absurd (omega (arith, lt))
split_after (x ∷ xs) zero front back lt = joins_twice front back (joined xs)
split_after (x ∷ xs) (suc at) front back lt = ap (λ rest. x ++ rest) (split_after xs at front back (omega (arith, lt)))

filled_after : (blocks : List Pairs) (at : ℕ) (front back : Pairs) → at < length blocks → AreFilled blocks → 1 ≤ length front → 1 ≤ length back → AreFilled (insert (slice_set blocks at front) (suc at) back)
filled_after [] at front back lt filled a b = absurd (omega (arith, lt))
filled_after (x ∷ xs) zero front back lt filled a b = (a, (b, filled.1))
filled_after (x ∷ xs) (suc at) front back lt filled a b = (filled.0, filled_after xs at front back (omega (arith, lt)) filled.1 a b)

pub joined_split : (blocks : List Pairs) (at next : ℕ) (front back : Pairs) → at < length blocks → suc at ≡ next → joined (insert (slice_set blocks at front) next back) ≡ joined (slice_set blocks at (front ++ back))
joined_split blocks at next front back lt is = subst (λ n. joined (insert (slice_set blocks at front) n back) ≡ joined (slice_set blocks at (front ++ back))) is (split_after blocks at front back lt)

pub filled_split : (blocks : List Pairs) (at next : ℕ) (front back : Pairs) → at < length blocks → suc at ≡ next → AreFilled blocks → 1 ≤ length front → 1 ≤ length back → AreFilled (insert (slice_set blocks at front) next back)
filled_split blocks at next front back lt is filled a b = subst (λ n. AreFilled (insert (slice_set blocks at front) n back)) is (filled_after blocks at front back lt filled a b)

pub some_inserted : (pairs : Pairs) (place : ℕ) (pair : Text × Text) → 1 ≤ length (insert pairs place pair)
some_inserted pairs place pair = let e = length_joins (take place pairs) (pair ∷ drop place pairs) in omega (arith, e)

length_inserted : (pairs : Pairs) (place : ℕ) (pair : Text × Text) → length (insert pairs place pair) ≡ length pairs + 1
length_inserted pairs zero pair = omega arith
length_inserted [] (suc place) pair = refl
length_inserted (x ∷ xs) (suc place) pair = let rest = length_inserted xs place pair in omega (arith, rest)

length_removed : (pairs : Pairs) (place : ℕ) → place < length pairs → length (remove pairs place) + 1 ≡ length pairs
length_removed [] place lt = absurd (omega (arith, lt))
length_removed (x ∷ xs) zero lt = omega arith
length_removed (x ∷ xs) (suc place) lt = let rest = length_removed xs place (omega (arith, lt)) in omega (arith, rest)

-- a block that has become empty
pub joined_removed : (blocks : List Pairs) (at : ℕ) (block : Pairs) → at < length blocks → length block ≡ 0 → joined (remove (slice_set blocks at block) at) ≡ joined (slice_set blocks at block)
joined_removed [] at block lt empty = absurd (omega (arith, lt))
joined_removed (x ∷ xs) zero [] lt empty = refl
joined_removed (x ∷ xs) zero (y ∷ ys) lt empty = absurd (omega (arith, empty))
joined_removed (x ∷ xs) (suc at) block lt empty = ap (λ rest. x ++ rest) (joined_removed xs at block (omega (arith, lt)) empty)

pub filled_removed : (blocks : List Pairs) (at : ℕ) (block : Pairs) → at < length blocks → AreFilled blocks → AreFilled (remove (slice_set blocks at block) at)
filled_removed [] at block lt filled = absurd (omega (arith, lt))
filled_removed (x ∷ xs) zero block lt filled = filled.1
filled_removed (x ∷ xs) (suc at) block lt filled = (filled.0, filled_removed xs at block (omega (arith, lt)) filled.1)

-- the pairs from a block on
joined_drop : (blocks : List Pairs) (at : ℕ) → at < length blocks → joined (drop at blocks) ≡ slice_index_or blocks at [] ++ joined (drop (suc at) blocks)
joined_drop [] at lt = absurd (omega (arith, lt))
joined_drop (x ∷ xs) zero lt = refl
joined_drop (x ∷ xs) (suc at) lt = joined_drop xs at (omega (arith, lt))

get_front : (xs ys : Pairs) (place : ℕ) → place < length xs → slice_get (xs ++ ys) place ≡ slice_get xs place
get_front [] ys place lt = absurd (omega (arith, lt))
get_front (x ∷ xs) ys zero lt = refl
get_front (x ∷ xs) ys (suc place) lt = get_front xs ys place (omega (arith, lt))

get_end : (xs ys : Pairs) (place left : ℕ) → place ≡ length xs + left → slice_get (xs ++ ys) place ≡ slice_get ys left
get_end [] ys place left is = let same : place ≡ left = omega (arith, is) in ap (slice_get ys) same
get_end (x ∷ xs) ys zero left is = absurd (omega (arith, is))
get_end (x ∷ xs) ys (suc place) left is = get_end xs ys place left (omega (arith, is))

-- a block that is found by its index, whatever stands past the end
pub same_block : (blocks : List Pairs) (at : ℕ) (block : Pairs) → at < length blocks → block ≡ slice_index_or blocks at block → block ≡ slice_index_or blocks at []
same_block [] at block lt is = absurd (omega (arith, lt))
same_block (x ∷ xs) zero block lt is = is
same_block (x ∷ xs) (suc at) block lt is = same_block xs at block (omega (arith, lt)) is

pub same_pair : (pairs : Pairs) (place : ℕ) (pair : Text × Text) → place < length pairs → pair ≡ slice_index_or pairs place pair → pair ≡ slice_index_or pairs place ([], [])
same_pair [] place pair lt is = absurd (omega (arith, lt))
same_pair (x ∷ xs) zero pair lt is = is
same_pair (x ∷ xs) (suc place) pair lt is = same_pair xs place pair (omega (arith, lt)) is

pub itself_at : (pairs : Pairs) (place : ℕ) (pair : Text × Text) → place < length pairs → slice_index_or pairs place pair ≡ slice_index_or pairs place (slice_index_or pairs place pair)
itself_at [] place pair lt = absurd (omega (arith, lt))
itself_at (x ∷ xs) zero pair lt = refl
itself_at (x ∷ xs) (suc place) pair lt = itself_at xs place pair (omega (arith, lt))

-- ---- pairs that are moved from one list's end to another's

pub moved_one : (front : Pairs) (x : Text × Text) (back all : Pairs) → (front ++ x ∷ []) ++ reverse back ≡ all → front ++ reverse (back ++ x ∷ []) ≡ all
moved_one front x back all is = ap (λ r. front ++ r) (reverse-append back (x ∷ [])) ∙ joins_twice front (x ∷ []) (reverse back) ∙ is

pub front_is : (xs ys : Pairs) (kept : ℕ) → length xs ≡ kept → xs ≡ take kept (xs ++ ys)
front_is [] ys zero is = refl
front_is [] ys (suc kept) is = absurd (omega (arith, is))
front_is (x ∷ xs) ys zero is = absurd (omega (arith, is))
front_is (x ∷ xs) ys (suc kept) is = ap (λ rest. x ∷ rest) (front_is xs ys kept (omega (arith, is)))

pub end_is : (xs ys : Pairs) (kept : ℕ) → length xs ≡ kept → ys ≡ drop kept (xs ++ ys)
end_is [] ys zero is = refl
end_is [] ys (suc kept) is = absurd (omega (arith, is))
end_is (x ∷ xs) ys zero is = absurd (omega (arith, is))
end_is (x ∷ xs) ys (suc kept) is = end_is xs ys kept (omega (arith, is))

-- an insert before or after the place where a list is cut
pub insert_front : (pairs : Pairs) (kept place : ℕ) (pair : Text × Text) → place ≤ kept → insert (take kept pairs) place pair ++ drop kept pairs ≡ insert pairs place pair
insert_front pairs zero zero pair le = refl
insert_front pairs zero (suc place) pair le = absurd (omega (arith, le))
insert_front [] (suc kept) zero pair le = refl
insert_front [] (suc kept) (suc place) pair le = refl
insert_front (x ∷ xs) (suc kept) zero pair le = ap (λ rest. pair ∷ x ∷ rest) (whole xs kept)
  where
    whole : (pairs : Pairs) (kept : ℕ) → take kept pairs ++ drop kept pairs ≡ pairs
    whole pairs zero = refl
    whole [] (suc kept) = refl
    whole (x ∷ xs) (suc kept) = ap (λ rest. x ∷ rest) (whole xs kept)
insert_front (x ∷ xs) (suc kept) (suc place) pair le = ap (λ rest. x ∷ rest) (insert_front xs kept place pair (omega (arith, le)))

pub insert_end : (pairs : Pairs) (kept place left : ℕ) (pair : Text × Text) → kept ≤ length pairs → place ≡ kept + left → take kept pairs ++ insert (drop kept pairs) left pair ≡ insert pairs place pair
insert_end pairs zero place left pair le is = let same : left ≡ place = omega (arith, is) in ap (λ n. insert pairs n pair) same
insert_end [] (suc kept) place left pair le is = absurd (omega (arith, le))
insert_end (x ∷ xs) (suc kept) zero left pair le is = absurd (omega (arith, is))
insert_end (x ∷ xs) (suc kept) (suc place) left pair le is = ap (λ rest. x ∷ rest) (insert_end xs kept place left pair (omega (arith, le)) (omega (arith, is)))

-- ---- the map

module _ (blocks : List Pairs) (sorted : AreSorted (joined blocks)) (name : Text) (at : ℕ) (is : IsBlockOf blocks name at) where
  pub sorted_here : AreSorted (slice_index_or blocks at [])
  sorted_here = sorted_block blocks at sorted is.in_range

  -- what the map has at the name stands in the block
  pub got_there : map.get (map_of (joined blocks)) name ≡ map.get (map_of (slice_index_or blocks at [])) name
  got_there = map.get-from_sorted by_bytes (joined blocks) name sorted ∙ find_block blocks name at is.belongs ∙ sym (map.get-from_sorted by_bytes (slice_index_or blocks at []) name sorted_here)

  text_set : (place : ℕ) → IsAt (slice_index_or blocks at []) name place → (pair : Text × Text) (text : Text) → pair ≡ slice_index_or (slice_index_or blocks at []) place pair
      → Makes (joined (slice_set blocks at (slice_set (slice_index_or blocks at []) place (pair.0, text)))) (map.insert (map_of (joined blocks)) name text)
  text_set place found pair text same = placed (joined blocks) _ name text sorted
      (put_block blocks name text at is.belongs ∙ ap (λ block. joined (slice_set blocks at block)) (put_at _ name text place pair (stands _ name place sorted_here found) same))

  pair_added : (place : ℕ) → IsGap (slice_index_or blocks at []) name place → (text : Text)
      → Makes (joined (slice_set blocks at (insert (slice_index_or blocks at []) place (name, text)))) (map.insert (map_of (joined blocks)) name text)
  pair_added place gap text = placed (joined blocks) _ name text sorted
      (put_block blocks name text at is.belongs ∙ ap (λ block. joined (slice_set blocks at block)) (put_gap _ name text place (parts _ name place gap)))

  pair_removed : (place : ℕ) → IsAt (slice_index_or blocks at []) name place
      → Makes (joined (slice_set blocks at (remove (slice_index_or blocks at []) place))) (map.remove (map_of (joined blocks)) name)
  pair_removed place found = removed (joined blocks) _ name sorted
      (without_block blocks name at is.belongs ∙ ap (λ block. joined (slice_set blocks at block)) (without_at _ name place sorted_here (stands _ name place sorted_here found)))

  pub none_removed : (place : ℕ) → IsGap (slice_index_or blocks at []) name place → map_of (joined blocks) ≡ map.remove (map_of (joined blocks)) name
  none_removed place gap = (removed (joined blocks) (joined blocks) name sorted
      (without_block blocks name at is.belongs ∙ ap (λ block. joined (slice_set blocks at block)) (without_gap _ name place sorted_here (parts _ name place gap)) ∙ set_same blocks at is.in_range)).made

length_text : (pairs : Pairs) (place : ℕ) (pair : Text × Text) → length (slice_set pairs place pair) ≡ length pairs
length_text [] place pair = refl
length_text (x ∷ xs) zero pair = refl
length_text (x ∷ xs) (suc place) pair = ap suc (length_text xs place pair)

module _ (blocks : List Pairs) (spare : Option Pairs) (count : ℕ) (are : AreBlocks blocks spare count) (name : Text) (at : ℕ) (is : IsBlockOf blocks name at) where
  -- a text is replaced
  pub after_text : (place : ℕ) → IsAt (slice_index_or blocks at []) name place → (text : Text) (new : Pairs)
      → (let pair = slice_index_or (slice_index_or blocks at []) place ([], []) in new ≡ slice_set (slice_index_or blocks at []) place (pair.0, text))
      → AreBlocks (slice_set blocks at new) spare count × (map_of (joined (slice_set blocks at new)) ≡ map.insert (map_of (joined blocks)) name text)
  after_text place found text new set =
      let made = text_set blocks are.sorted name at is place found (slice_index_or (slice_index_or blocks at []) place ([], [])) text (itself_at _ _ _ found.in_range) in
      let same : length new ≡ length (slice_index_or blocks at []) = ap (λ (pairs : Pairs). length pairs) set ∙ length_text _ place _ in
      let some = filled_at blocks at are.filled is.in_range in
      let all = length_set blocks at new is.in_range in (
        record {
          sorted = rw set made.sorted;
          filled = filled_set blocks at new are.filled (omega (arith, same, some));
          counted = omega (arith, are.counted, same, all);
          spared = are.spared;
        },
        rw set made.made,
      )

  -- a pair is added
  pub after_added : (place : ℕ) → IsGap (slice_index_or blocks at []) name place → (text : Text) (new : List Pairs) (left : Option Pairs)
      → joined new ≡ joined (slice_set blocks at (insert (slice_index_or blocks at []) place (name, text))) → (AreFilled blocks → AreFilled new) → IsSpare left
      → AreBlocks new left (count + 1) × (map_of (joined new) ≡ map.insert (map_of (joined blocks)) name text)
  after_added place gap text new left added filled spared =
      let made = pair_added blocks are.sorted name at is place gap text in
      let longer = length_inserted (slice_index_or blocks at []) place (name, text) in
      let all = length_set blocks at (insert (slice_index_or blocks at []) place (name, text)) is.in_range in
      let new_all = ap (λ (pairs : Pairs). length pairs) added in (
        record {
          sorted = rw added made.sorted;
          filled = filled are.filled;
          counted = omega (arith, are.counted, longer, all, new_all);
          spared = spared;
        },
        rw added made.made,
      )

  -- a pair is taken out
  pub after_removed : (place : ℕ) → IsAt (slice_index_or blocks at []) name place → (new : List Pairs)
      → joined new ≡ joined (slice_set blocks at (remove (slice_index_or blocks at []) place)) → (AreFilled blocks → AreFilled new)
      → AreBlocks new spare (count - 1) × (map_of (joined new) ≡ map.remove (map_of (joined blocks)) name)
  after_removed place found new taken filled =
      let made = pair_removed blocks are.sorted name at is place found in
      let shorter = length_removed (slice_index_or blocks at []) place found.in_range in
      let all = length_set blocks at (remove (slice_index_or blocks at []) place) is.in_range in
      let new_all = ap (λ (pairs : Pairs). length pairs) taken in (
        record {
          sorted = rw taken made.sorted;
          filled = filled are.filled;
          counted = omega (arith, are.counted, shorter, all, new_all);
          spared = are.spared;
        },
        rw taken made.made,
      )

-- a place is counted from where its block begins
got_at : (pairs : Pairs) (place : ℕ) (pair : Text × Text) → place < length pairs → Some (slice_index_or pairs place pair) ≡ slice_get pairs place
got_at [] place pair lt = absurd (omega (arith, lt))
got_at (x ∷ xs) zero pair lt = refl
got_at (x ∷ xs) (suc place) pair lt = got_at xs place pair (omega (arith, lt))

module _ (blocks : List Pairs) (at left place : ℕ) (block : Pairs) (below : at < length blocks) (is : block ≡ slice_index_or blocks at block)
    (now : slice_get (joined (drop at blocks)) left ≡ slice_get (joined blocks) place) where
  from_here : slice_get (block ++ joined (drop (suc at) blocks)) left ≡ slice_get (joined blocks) place
  from_here =
      ap (λ (b : Pairs). slice_get (b ++ joined (drop (suc at) blocks)) left) (same_block blocks at block below is)
      ∙ sym (ap (λ (pairs : Pairs). slice_get pairs left) (joined_drop blocks at below)) ∙ now

  pub in_block : (pair : Text × Text) → left < length block → pair ≡ slice_index_or block left pair → Some pair ≡ slice_get (joined blocks) place
  in_block pair lt same = ap (λ (p : Text × Text). Some p) same ∙ got_at block left pair lt ∙ sym (get_front block (joined (drop (suc at) blocks)) left lt) ∙ from_here

  pub past_block : (next rest : ℕ) → suc at ≡ next → left ≡ length block + rest → slice_get (joined (drop next blocks)) rest ≡ slice_get (joined blocks) place
  past_block next rest next_is left_is = subst (λ n. slice_get (joined (drop n blocks)) rest ≡ slice_get (joined blocks) place) next_is (sym (get_end block (joined (drop (suc at) blocks)) left rest left_is) ∙ from_here)

-- where there are no blocks, no name is
pub none_there : (blocks : List Pairs) (name : Text) → blocks ≡ [] → map.get (map_of (joined blocks)) name ≡ None
none_there [] name is = map.get-from_sorted by_bytes (joined []) name tt
none_there (x ∷ xs) name is = cc

-- the first pair of all
pub first_added : (blocks : List Pairs) (name text : Text) → blocks ≡ [] → map_of (joined (((name, text) ∷ []) ∷ [])) ≡ map.insert (map_of (joined blocks)) name text
first_added [] name text is = (placed [] _ name text tt refl).made
first_added (x ∷ xs) name text is = cc

pub none_removed_of_none : (blocks : List Pairs) (name : Text) → blocks ≡ [] → map_of (joined blocks) ≡ map.remove (map_of (joined blocks)) name
none_removed_of_none [] name is = (removed [] [] name tt refl).made
none_removed_of_none (x ∷ xs) name is = cc

-- what the condition of a put leaves, where the name isn't there
pub record HasRoom (places : ℕ) (spare : Option Pairs) (count : ℕ) : Type 0 where
  pub places_left : 1 ≤ places
  pub kept : spare ≡ Some []
  pub count_left : count + 1 ≤ 2 ^ 64 - 1

with_room : (left places : ℕ) (spare : Option Pairs) (count : ℕ) → left ≡ room_left places spare count → IsSpare spare → 1 ≤ left → HasRoom places spare count
with_room left places None count is empty room =
    let a = min-le_right places (min 0 (2 ^ 64 - 1 - count)) in
    let b = min-le_left 0 (2 ^ 64 - 1 - count) in
    absurd (omega (arith, is, room, a, b))
with_room left places (Some block) count is empty room =
    let a = min-le_left places (min 1 (2 ^ 64 - 1 - count)) in
    let b = min-le_right places (min 1 (2 ^ 64 - 1 - count)) in
    let c = min-le_right 1 (2 ^ 64 - 1 - count) in
    record { places_left = omega (arith, is, room, a); kept = ap Some empty; count_left = omega (arith, is, room, b, c) }

pub has_room : (found : Option Text) (left places : ℕ) (spare : Option Pairs) (count : ℕ) → left ≡ room_left places spare count → IsSpare spare → found ≡ None → (1 ≤ left) ⊎ IsSome found → HasRoom places spare count
has_room found left places spare count is empty none (inl room) = with_room left places spare count is empty room
has_room None left places spare count is empty none (inr there) = search rules
has_room (Some x) left places spare count is empty none (inr there) = search rules
