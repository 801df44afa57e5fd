-- Rows of tests.
use Rattle.std.proofs.Common.{◌≡◌, ℕ, suc, ◌+◌, ◌-◌, ◌<◌, Bool, true, false, ◌&&◌, ◌||◌, List, [], ◌∷◌, ◌++◌, length, map, reverse, Option, Some, ◌⊎◌, inl, inr, ◌≢◌, ◌==◌, refl, ap, sym, ◌∙◌, arith, append_assoc, append-nil}
use Rattle.std.specs.List.{slice_get}
use Rattle.std.specs.Prelude.{unwrap_or, bytes_eq, codes}
use Rattle.std.proofs.lemmas.List.{reverse-reverse}
use Rattle.meaning_texts.specs.Lists.{is_empty}
use Rattle.std.proofs.lemmas.Bool.Decides.{nat_tests}
use Rattle.project_file.specs.Patterns.{some_tail, first_then, step_fits, steps_fit}
use Rattle.project_file.specs.Rows.{falses, first_row, any_so_far, pairs_pass, moved_on}
use Rattle.project_file.specs.RowsOf.{row_of}

-- no rest but the empty one is empty
longer_is_not_empty : {A : Type 0} (x : A) (rest before : List A) → row_of is_empty (x ∷ rest) before ≡ false ∷ falses (length before)
longer_is_not_empty x rest [] = refl
longer_is_not_empty x rest (y ∷ before) = ap (λ (l : List Bool). false ∷ l) (longer_is_not_empty y (x ∷ rest) before)

pub row_of_none : {A : Type 0} (items : List A) → row_of is_empty [] items ≡ first_row (length items)
row_of_none [] = refl
row_of_none (x ∷ items) = ap (λ (l : List Bool). true ∷ l) (longer_is_not_empty x [] items)

some_from : {A : Type 0} (test : List A → Bool) (x : A) (rest before : List A) (any : Bool) → any ≡ some_tail test rest
    → any_so_far any (row_of test (x ∷ rest) before) ≡ row_of (some_tail test) (x ∷ rest) before
some_from test x rest [] any is = ap (λ (b : Bool). (test (x ∷ rest) || b) ∷ []) is
some_from test x rest (y ∷ before) any is =
    let so_far : (test (x ∷ rest) || any) ≡ some_tail test (x ∷ rest) = ap (λ (b : Bool). test (x ∷ rest) || b) is in
    ap (λ (b : Bool). b ∷ any_so_far (test (x ∷ rest) || any) (row_of test (y ∷ x ∷ rest) before)) so_far
    ∙ ap (λ (l : List Bool). some_tail test (x ∷ rest) ∷ l) (some_from test y (x ∷ rest) before (test (x ∷ rest) || any) so_far)

or_false : (b : Bool) → (b || false) ≡ b
or_false true = refl
or_false false = refl

pub row_of_some : {A : Type 0} (test : List A → Bool) (items : List A) → any_so_far false (row_of test [] items) ≡ row_of (some_tail test) [] items
row_of_some test [] = ap (λ (b : Bool). b ∷ []) (or_false (test []))
row_of_some test (x ∷ items) =
    ap (λ (b : Bool). b ∷ any_so_far (test [] || false) (row_of test (x ∷ []) items)) (or_false (test []))
    ∙ ap (λ (l : List Bool). test [] ∷ l) (some_from test x [] items (test [] || false) (or_false (test [])))

first_from : {A : Type 0} (first : A → Bool) (test : List A → Bool) (rest before : List A)
    → first_then first test rest ∷ pairs_pass first before (row_of test rest before) ≡ row_of (first_then first test) rest before
first_from first test rest [] = refl
first_from first test rest (x ∷ before) = ap (λ (l : List Bool). first_then first test rest ∷ l) (first_from first test (x ∷ rest) before)

pub row_of_first : {A : Type 0} (first : A → Bool) (test : List A → Bool) (items : List A)
    → moved_on first items (row_of test [] items) ≡ row_of (first_then first test) [] items
row_of_first first test items = first_from first test [] items

-- the whole text is the last rest
abbrev back_onto : {A : Type 0} → List A → List A → List A
back_onto rest [] = rest
back_onto rest (x ∷ before) = back_onto (x ∷ rest) before

last_from : {A : Type 0} (test : List A → Bool) (rest before : List A)
    → slice_get (row_of test rest before) (length before) ≡ Some (test (back_onto rest before))
last_from test rest [] = refl
last_from test rest (x ∷ before) = last_from test (x ∷ rest) before

row_length : {A : Type 0} (test : List A → Bool) (rest before : List A) → length (row_of test rest before) ≡ suc (length before)
row_length test rest [] = refl
row_length test rest (x ∷ before) = ap suc (row_length test (x ∷ rest) before)

pub falses_step : (n k : ℕ) → k < n → falses (n - k) ≡ false ∷ falses (n - (k + 1))
falses_step n k below = let one : n - k ≡ suc (n - (k + 1)) = omega arith in ap falses one

-- tests that answer the same have the same row
row_of-same : {A : Type 0} (test other : List A → Bool) → ((l : List A) → test l ≡ other l) → (rest items : List A)
    → row_of test rest items ≡ row_of other rest items
row_of-same test other same rest [] = ap (λ (b : Bool). b ∷ []) (same rest)
row_of-same test other same rest (x ∷ items) =
    ap (λ (b : Bool). b ∷ row_of test (x ∷ rest) items) (same rest) ∙ ap (λ (l : List Bool). other rest ∷ l) (row_of-same test other same (x ∷ rest) items)

-- ---- a step

star_fits : (step rest : List ℕ) (b : ℕ) → step ≡ b ∷ rest → b ≡ 42 → (name : List ℕ) → some_tail (step_fits rest) name ≡ step_fits step name
star_fits step rest b cut star name = rw (cut, star) refl

byte_fits : (step rest : List ℕ) (b : ℕ) → step ≡ b ∷ rest → b ≢ 42 → (name : List ℕ) → first_then (λ c. c == b) (step_fits rest) name ≡ step_fits step name
byte_fits step rest b cut other name =
    let test : (b == 42) ≡ false = grind (arith, nat_tests) in
    rw cut (rw test refl)

none_fits : (step : List ℕ) → length step ≡ 0 → (name : List ℕ) → is_empty name ≡ step_fits step name
none_fits [] none name = refl
none_fits (b ∷ rest) none name = absurd (omega arith)

pub row_none : (step items : List ℕ) (row : List Bool) → length step ≡ 0 → row ≡ first_row (length items) → row ≡ row_of (step_fits step) [] items
row_none step items row none is = is ∙ sym (row_of_none items) ∙ row_of-same is_empty (step_fits step) (none_fits step none) [] items

pub row_star : (step rest items : List ℕ) (b : ℕ) (row next : List Bool) → step ≡ b ∷ rest → b ≡ 42 → row ≡ row_of (step_fits rest) [] items
    → next ≡ any_so_far false row
    → next ≡ row_of (step_fits step) [] items
row_star step rest items b row next cut star before is =
    is ∙ ap (any_so_far false) before ∙ row_of_some (step_fits rest) items ∙ row_of-same _ (step_fits step) (star_fits step rest b cut star) [] items

pub row_byte : (step rest items : List ℕ) (b : ℕ) (row next : List Bool) → step ≡ b ∷ rest → b ≢ 42 → row ≡ row_of (step_fits rest) [] items
    → next ≡ moved_on (λ c. c == b) items row
    → next ≡ row_of (step_fits step) [] items
row_byte step rest items b row next cut other before is =
    is ∙ ap (moved_on (λ (c : ℕ). c == b) items) before ∙ row_of_first (λ c. c == b) (step_fits rest) items
    ∙ row_of-same _ (step_fits step) (byte_fits step rest b cut other) [] items

-- ---- the whole text

pub whole : {A : Type 0} (test : List A → Bool) (items backwards : List A) (row : List Bool) → backwards ≡ reverse items → row ≡ row_of test [] backwards
    → unwrap_or (slice_get row (length row - 1)) false ≡ test items
whole test items backwards row turned is =
    let len : length row - 1 ≡ length backwards = omega (arith, ap length is, row_length test [] backwards) in
    let back : back_onto [] backwards ≡ items = ap reverse turned ∙ reverse-reverse items in
    ap (λ n. unwrap_or (slice_get row n) false) len
    ∙ ap (λ (l : List Bool). unwrap_or (slice_get l (length backwards)) false) is
    ∙ ap (λ (o : Option Bool). unwrap_or o false) (last_from test [] backwards) ∙ ap test back

-- ---- pairs

pub ended : {A : Type 0} (test : A → Bool) (items : List A) (row next : List Bool) (made : List Bool) → (length items ≡ 0) ⊎ (length row ≡ 0)
    → next ++ pairs_pass test items row ≡ made → next ≡ made
ended test [] row next made end is = sym (append-nil next) ∙ is
ended test (x ∷ items) [] next made end is = sym (append-nil next) ∙ is
ended test (x ∷ items) (b ∷ row) next made (inl none) is = absurd (omega arith)
ended test (x ∷ items) (b ∷ row) next made (inr none) is = absurd (omega arith)

-- ---- steps

none_fit : (steps : List (List ℕ)) → length steps ≡ 0 → (names : List (List ℕ)) → is_empty names ≡ steps_fit steps names
none_fit [] none names = refl
none_fit (step ∷ rest) none names = absurd (omega arith)

some_fit : (steps rest : List (List ℕ)) (step : List ℕ) → steps ≡ step ∷ rest → bytes_eq step (codes "**") ≡ true → (names : List (List ℕ))
    → some_tail (steps_fit rest) names ≡ steps_fit steps names
some_fit steps rest step cut is names = rw cut (rw is refl)

first_fits : (steps rest : List (List ℕ)) (step : List ℕ) → steps ≡ step ∷ rest → bytes_eq step (codes "**") ≡ false
    → (names : List (List ℕ)) → first_then (step_fits step) (steps_fit rest) names ≡ steps_fit steps names
first_fits steps rest step cut is names = rw cut (rw is refl)

pub steps_none : (steps names : List (List ℕ)) (row : List Bool) → length steps ≡ 0 → row ≡ first_row (length names) → row ≡ row_of (steps_fit steps) [] names
steps_none steps names row none is = is ∙ sym (row_of_none names) ∙ row_of-same is_empty (steps_fit steps) (none_fit steps none) [] names

pub steps_some : (steps rest names : List (List ℕ)) (step : List ℕ) (row next : List Bool) → steps ≡ step ∷ rest → bytes_eq step (codes "**") ≡ true
    → row ≡ row_of (steps_fit rest) [] names
    → next ≡ any_so_far false row → next ≡ row_of (steps_fit steps) [] names
steps_some steps rest names step row next cut folders before is =
    is ∙ ap (any_so_far false) before ∙ row_of_some (steps_fit rest) names ∙ row_of-same _ (steps_fit steps) (some_fit steps rest step cut folders) [] names

pub steps_first : (steps rest names : List (List ℕ)) (step : List ℕ) (row next : List Bool) → steps ≡ step ∷ rest → bytes_eq step (codes "**") ≡ false
    → row ≡ row_of (steps_fit rest) [] names
    → next ≡ moved_on (step_fits step) names row → next ≡ row_of (steps_fit steps) [] names
steps_first steps rest names step row next cut other before is =
    is ∙ ap (moved_on (step_fits step) names) before ∙ row_of_first (step_fits step) (steps_fit rest) names
    ∙ row_of-same _ (steps_fit steps) (first_fits steps rest step cut other) [] names

-- one more pair is written
pub turn : {A : Type 0} (test : A → Bool) (items more : List A) (row others next made : List Bool) (x : A) (passes fits : Bool) → items ≡ x ∷ more
    → row ≡ passes ∷ others
    → fits ≡ (test x && passes) → next ++ pairs_pass test items row ≡ made → (next ++ fits ∷ []) ++ pairs_pass test more others ≡ made
turn {A = A} test items more row others next made x passes fits cut row_cut is before =
    append_assoc next (fits ∷ []) (pairs_pass test more others)
    ∙ ap (λ (b : Bool). next ++ b ∷ pairs_pass test more others) is
    ∙ ap (λ (l : List Bool). next ++ l) (sym (ap (λ (l : List A). pairs_pass test l row) cut ∙ ap (pairs_pass test (x ∷ more)) row_cut))
    ∙ before

pub and_true : (b passes : Bool) → passes ≡ true → b ≡ (b && passes)
and_true true passes is = sym is
and_true false passes is = refl

pub and_false : (b passes : Bool) → passes ≡ false → false ≡ (b && passes)
and_false true passes is = sym is
and_false false passes is = refl

map-back_onto : {A B : Type 0} (f : A → B) (rest before : List A) → map f (back_onto rest before) ≡ back_onto (map f rest) (map f before)
map-back_onto f rest [] = refl
map-back_onto f rest (x ∷ before) = map-back_onto f (x ∷ rest) before

pub map-reverse : {A B : Type 0} (f : A → B) (items : List A) → map f (reverse items) ≡ reverse (map f items)
map-reverse f items = map-back_onto f [] items
