-- Where parts stand once they are laid out.
use Rattle.std.proofs.Common.{◌≡◌, ◌≢◌, ℕ, zero, suc, ◌+◌, ◌<◌, ◌/◌, ◌%◌, Bool, true, false, not, List, [], ◌∷◌, ◌++◌, length, take, get_or, Option, Some, None, option_map, refl, sym, ap, ◌∙◌, subst, arith, inl, inr}
use Rattle.std.specs.Prelude.{◌==◌, ◌&&◌, nat_eq, bytes_eq, is_some, unwrap_or, decimal, if◌then◌else◌, All}
use Rattle.std.specs.Fmt.{digits, digits_onto, digit_glyph}
use Rattle.std.specs.List.{list_any}
use Rattle.std.proofs.lemmas.Bool.{cases_Bool, and_parts, and_from, or_parts, or_left, both_ways, ne_eqb}
use Rattle.std.proofs.lemmas.List.Elements.{All-head, All-tail, All-weaker}
use Rattle.std.proofs.lemmas.List.Folds.{list_any_none}
use Rattle.std.proofs.lemmas.List.Sums.{fold_more}
use Rattle.std.proofs.lemmas.Slice.Eq.{bytes_eq-Decides}
use Rattle.meaning_texts.specs.Lists.{is_empty}
use Rattle.meaning_calls.specs.Jobs.{body_name}
use Rattle.call_layout.specs.declared.told.PartTold.{PartTold}
use Rattle.call_layout.specs.declared.layout.Placed.{Placed}
use Rattle.call_layout.specs.Labels.{first_of_steps, is_part_file, is_own_name, is_taken}
use Rattle.call_layout.specs.Layout.{stands_at, has_label, first_number, placed_of, placed_from, placed_parts, PartCanStand, AllCanStand}
use Rattle.call_layout.specs.Places.{Files, with_file, with_placed, laid, HasFirstBytes}
use Rattle.call_layout.proofs.Steps.{one_step}
use Rattle.call_layout.proofs.ReadBack.{decimal_digits, decimal_lacks}
use Rattle.call_layout.proofs.Firsts.{first_is_had, is_had}

-- ---- one more part is laid

pub laid_none : (told : Option Files) → told ≡ option_map (laid []) told
laid_none None = refl
laid_none (Some files) = refl

pub laid_on : (told : Option Files) (placed : List Placed) (i : ℕ) (part : Placed) → i < length placed → part ≡ get_or placed i part
    → option_map (λ files. with_placed files part) (option_map (laid (take i placed)) told) ≡ option_map (laid (take (i + 1) placed)) told
laid_on None placed i part lt is = refl
laid_on (Some files) placed i part lt is = ap (λ (f : Files). Some f) (sym (fold_more with_placed files placed i part lt ∙ ap (with_placed (laid (take i placed) files)) (sym is)))

-- ---- what one part does to a path

abbrev entry : List PartTold → ℕ → PartTold → Placed
entry all j part = record { number = j; first = unwrap_or (first_number part.label 1 all) j; label = part.label }

abbrev stepped : List PartTold → ℕ → PartTold → Files → Files
stepped all j part files = if part.is_there then with_placed files (entry all j part) else files

laid_step : (all : List PartTold) (j : ℕ) (part : PartTold) (rest : List Placed) (files : Files) → laid (placed_of all j part ++ rest) files ≡ laid rest (stepped all j part files)
laid_step all j part rest files = by part.is_there
  where
    by : (b : Bool) → laid ((if b then entry all j part ∷ [] else []) ++ rest) files ≡ laid rest (if b then with_placed files (entry all j part) else files)
    by true = refl
    by false = refl

-- the part is there, is the first with its label, and has this one
abbrev pick : Bool → Bool → Bool → Option (List ℕ) → Option (List ℕ) → Option (List ℕ)
pick there first same x y = if there then (if first then (if same then x else y) else y) else y

step_at : (all : List PartTold) (j : ℕ) (part : PartTold) (files : Files) (path : List ℕ)
    → stepped all j part files path ≡ pick part.is_there ((entry all j part).first == j) (bytes_eq part.label path) (files (body_name j)) (files path)
step_at all j part files path = by part.is_there ((entry all j part).first == j)
  where
    by : (there first : Bool) → ◌≡◌ {A = Option (List ℕ)} ((if there then (if first then with_file (body_name j) part.label files else files) else files) path) (pick there first (bytes_eq part.label path) (files (body_name j)) (files path))
    by true true = refl
    by true false = refl
    by false first = refl

quiet : (there first same : Bool) (x y : Option (List ℕ)) → (there && same) ≡ false → pick there first same x y ≡ y
quiet false first same x y h = refl
quiet true false same x y h = refl
quiet true true false x y h = refl
quiet true true true x y h = let clash : ⊥ = cc in absurd clash

later : (there same : Bool) (x y : Option (List ℕ)) → pick there false same x y ≡ y
later true same x y = refl
later false same x y = refl

step_other : (all : List PartTold) (j : ℕ) (part : PartTold) (files : Files) (path : List ℕ) → stands_at path part ≡ false → stepped all j part files path ≡ files path
step_other all j part files path none =
    step_at all j part files path ∙ quiet part.is_there ((entry all j part).first == j) (bytes_eq part.label path) (files (body_name j)) (files path) none

-- ---- paths that are no labels

pub others_stay : (all : List PartTold) (j : ℕ) (parts : List PartTold) (files : Files) (path : List ℕ) → has_label parts path ≡ false → laid (placed_from all j parts) files path ≡ files path
others_stay all j [] files path none = refl
others_stay all j (part ∷ rest) files path none =
    let apart = or_parts (stands_at path part) (has_label rest path) none in
    ap (λ (f : Files). f path) (laid_step all j part (placed_from all (j + 1) rest) files)
    ∙ others_stay all (j + 1) rest (stepped all j part files) path apart.1 ∙ step_other all j part files path apart.0

-- ---- labels

label_of : (label : List ℕ) (part : PartTold) → stands_at label part ≡ true → part.label ≡ label
label_of label part stands = (bytes_eq-Decides part.label label).0 (and_parts part.is_there (bytes_eq part.label label) stands).1

first_of : (all : List PartTold) (label : List ℕ) (n j : ℕ) (part : PartTold) → first_number label 1 all ≡ Some n → stands_at label part ≡ true → (entry all j part).first ≡ n
first_of all label n j part first stands = ap (λ l. unwrap_or (first_number l 1 all) j) (label_of label part stands) ∙ ap (λ o. unwrap_or o j) first

-- a part after the first one with its label
step_later : (all : List PartTold) (label : List ℕ) (n j : ℕ) (part : PartTold) (files : Files) → first_number label 1 all ≡ Some n → n < j → stepped all j part files label ≡ files label
step_later all label n j part files first after = by (stands_at label part) refl
  where
    differs : (m : ℕ) → m ≡ n → m ≢ j
    differs m is same = let clash : ⊥ = omega (arith, is, same, after) in clash

    by : (b : Bool) → stands_at label part ≡ b → stepped all j part files label ≡ files label
    by false is = step_other all j part files label is
    by true is =
        step_at all j part files label
        ∙ ap (λ b. pick part.is_there b (bytes_eq part.label label) (files (body_name j)) (files label)) (ne_eqb (entry all j part).first j (differs (entry all j part).first (first_of all label n j part first is)))
        ∙ later part.is_there (bytes_eq part.label label) (files (body_name j)) (files label)

twins_stay : (all : List PartTold) (label : List ℕ) (n j : ℕ) (parts : List PartTold) (files : Files) → first_number label 1 all ≡ Some n → n < j → laid (placed_from all j parts) files label ≡ files label
twins_stay all label n j [] files first after = refl
twins_stay all label n j (part ∷ rest) files first after =
    ap (λ (f : Files). f label) (laid_step all j part (placed_from all (j + 1) rest) files)
    ∙ twins_stay all label n (j + 1) rest (stepped all j part files) first (omega arith) ∙ step_later all label n j part files first after

-- the first part with a label
step_first : (all : List PartTold) (label : List ℕ) (n j : ℕ) (part : PartTold) (files : Files) → first_number label 1 all ≡ Some n → stands_at label part ≡ true → n ≡ j
    → stepped all j part files label ≡ files (body_name n)
step_first all label n j part files first stands is =
    let parts = and_parts part.is_there (bytes_eq part.label label) stands in
    let same : (entry all j part).first ≡ j = first_of all label n j part first stands ∙ is in
    let equal : ((entry all j part).first == j) ≡ true = ap (λ m. m == j) same ∙ self j in
    step_at all j part files label
    ∙ ap (λ b. pick b ((entry all j part).first == j) (bytes_eq part.label label) (files (body_name j)) (files label)) parts.0
    ∙ ap (λ b. if b then (if bytes_eq part.label label then files (body_name j) else files label) else files label) equal
    ∙ ap (λ b. if b then files (body_name j) else files label) parts.1
    ∙ ap (λ m. files (body_name m)) (sym is)
  where
    self : (j : ℕ) → (j == j) ≡ true
    self j = grind arith

stands : (all : List PartTold) (label : List ℕ) (n j : ℕ) (parts : List PartTold) (files : Files) → first_number label 1 all ≡ Some n → first_number label j parts ≡ Some n
    → has_label parts (body_name n) ≡ false → laid (placed_from all j parts) files label ≡ files (body_name n)
stands all label n j [] files first found none = let clash : ⊥ = cc in absurd clash
stands all label n j (part ∷ rest) files first found none =
    let apart = or_parts (stands_at (body_name n) part) (has_label rest (body_name n)) none in
    ap (λ (f : Files). f label) (laid_step all j part (placed_from all (j + 1) rest) files)
    ∙ by (stands_at label part) refl found
    (λ later. stands all label n (j + 1) rest (stepped all j part files) first later apart.1 ∙ step_other all j part files (body_name n) apart.0)
  where
    number : (m : ℕ) → Some m ≡ Some n → n ≡ m
    number m is = sym (ap (λ o. unwrap_or o 0) is)

    by : (b : Bool) → stands_at label part ≡ b → (if b then Some j else first_number label (j + 1) rest) ≡ Some n
        → (first_number label (j + 1) rest ≡ Some n → laid (placed_from all (j + 1) rest) (stepped all j part files) label ≡ files (body_name n))
        → laid (placed_from all (j + 1) rest) (stepped all j part files) label ≡ files (body_name n)
    by true is here later =
        let at : n ≡ j = number j here in
        twins_stay all label n (j + 1) rest (stepped all j part files) first (omega (arith, at)) ∙ step_first all label n j part files first is at
    by false is found later = later found

-- ---- the name of a part's file is no label

some_onto : (k n : ℕ) (acc : List ℕ) → not (is_empty (digits_onto (suc k) 10 false n acc)) ≡ true
some_onto zero n acc = elim (cases_Bool (nat_eq (n / 10) 0)) [
  | inl t ↦ rw t refl
  | inr t ↦ rw t refl
]
some_onto (suc k) n acc = elim (cases_Bool (nat_eq (n / 10) 0)) [
  | inl t ↦ rw t refl
  | inr t ↦ rw t (some_onto k (n / 10) (digit_glyph false (n % 10) ∷ acc))
]

decimal_some : (n : ℕ) → not (is_empty (decimal n)) ≡ true
unfolding digits
decimal_some n = some_onto 63 n []

is_file : (n : ℕ) → is_part_file (body_name n) ≡ true
is_file n = and_from _ _ (decimal_some n) (decimal_digits n)

own : (outs : List (List ℕ)) (n : ℕ) → is_own_name outs (body_name n) ≡ true
own outs n = or_left (is_part_file (body_name n)) (list_any (λ out. bytes_eq out (body_name n)) outs) (is_file n)

body_taken : (outs : List (List ℕ)) (n : ℕ) → is_taken outs (body_name n) ≡ true
body_taken outs n =
    let step = one_step (body_name n) ((λ e. cc), decimal_lacks 47 refl n) in
    ap (λ steps. is_own_name outs (first_of_steps steps)) step ∙ own outs n

no_body : (outs : List (List ℕ)) (parts : List PartTold) (n : ℕ) → AllCanStand outs parts → has_label parts (body_name n) ≡ false
no_body outs parts n can = list_any_none (stands_at (body_name n)) parts (All-weaker (PartCanStand outs parts) (λ part. stands_at (body_name n) part ≡ false) one parts can)
  where
    one : (part : PartTold) → PartCanStand outs parts part → stands_at (body_name n) part ≡ false
    one part stand = by (stands_at (body_name n) part) refl
      where
        by : (b : Bool) → stands_at (body_name n) part ≡ b → stands_at (body_name n) part ≡ false
        by false is = is
        by true is =
            let parts_are = and_parts part.is_there (bytes_eq part.label (body_name n)) is in
            let free : is_taken outs part.label ≡ false = (stand parts_are.0).free in
            let taken : is_taken outs part.label ≡ true = ap (is_taken outs) (label_of (body_name n) part is) ∙ body_taken outs n in
            absurd (both_ways (is_taken outs part.label) free taken)

-- ---- each part

entry_in : (P : Placed → Type 0) (all : List PartTold) (j : ℕ) (parts : List PartTold) (i : ℕ) (part : PartTold) → All P (placed_from all j parts) → i < length parts → part ≡ get_or parts i part → part.is_there ≡ true
    → P (entry all (j + i) part)
entry_in P all j [] i part are lt is there = absurd (omega arith)
entry_in P all j (first ∷ parts) zero part are lt is there =
    let number : j ≡ j + 0 = omega arith in
    subst (λ k. P (entry all k part)) number (subst (λ p. P (entry all j p)) (sym is) (head first.is_there (sym (ap (λ (p : PartTold). p.is_there) is) ∙ there) are))
  where
    head : (b : Bool) → b ≡ true → All P ((if b then entry all j first ∷ [] else []) ++ placed_from all (j + 1) parts) → P (entry all j first)
    head true says are = All-head P (entry all j first) (placed_from all (j + 1) parts) are
    head false says are = let clash : ⊥ = cc in absurd clash
entry_in P all j (first ∷ parts) (suc i) part are lt is there =
    let number : (j + 1) + i ≡ j + suc i = omega arith in
    subst (λ k. P (entry all k part)) number (entry_in P all (j + 1) parts i part (tail first.is_there are) (omega arith) is there)
  where
    tail : (b : Bool) → All P ((if b then entry all j first ∷ [] else []) ++ placed_from all (j + 1) parts) → All P (placed_from all (j + 1) parts)
    tail true are = All-tail P (entry all j first) (placed_from all (j + 1) parts) are
    tail false are = are

pub each_stands : (outs : List (List ℕ)) (parts : List PartTold) (files : Files) → AllCanStand outs parts → All (HasFirstBytes (Some files)) (placed_parts parts)
    → (k : ℕ) (part : PartTold) → k < length parts → part ≡ get_or parts k part → part.is_there ≡ true → laid (placed_parts parts) files part.label ≡ files (body_name (k + 1))
each_stands outs parts files can same k part lt is there = by (first_number part.label 1 parts) refl
  where
    had : has_label parts part.label ≡ true
    had = is_had parts k part lt is there

    number : 1 + k ≡ k + 1
    number = omega arith

    twin : files (body_name (1 + k)) ≡ files (body_name (unwrap_or (first_number part.label 1 parts) (1 + k)))
    twin = entry_in (HasFirstBytes (Some files)) parts 1 parts k part same lt is there

    by : (first : Option ℕ) → first_number part.label 1 parts ≡ first → laid (placed_parts parts) files part.label ≡ files (body_name (k + 1))
    by None none = absurd (both_ways (has_label parts part.label) (sym (first_is_had part.label 1 parts) ∙ ap (λ o. is_some o) none) had)
    by (Some n) first =
        stands parts part.label n 1 parts files first first (no_body outs parts n can)
        ∙ sym (twin ∙ ap (λ o. files (body_name (unwrap_or o (1 + k)))) first)
        ∙ ap (λ m. files (body_name m)) number
