-- The entries of a map of texts: each is what the map gives, and no two have one name.
use Rattle.std.proofs.Common.{◌≡◌, ◌≢◌, ◌⊎◌, ◌+◌, ◌<◌, ◌≤◌, ℕ, zero, suc, Bool, true, false, cond, List, [], ◌∷◌, ◌++◌, take, length, Some, None, refl, sym, ap, ◌∙◌, inl, inr, arith}
use Rattle.std.specs.List.{flat_map}
use Rattle.std.proofs.lemmas.List.{flat_map_more, take_all, take_more}
use Rattle.std.proofs.lemmas.Option.{slice_get_within, slice_get_cases, get_or_from_slice_get}
use Rattle.std.specs.Prelude.{T, ◌&&◌, slice_get}
use Rattle.std.specs.Ordering.{nat_cmp, eq_by_cmp, is_eq, is_lt}
use Rattle.std.specs.declared.cmp.Ordering.{Ordering}
use Rattle.std.specs.declared.cmp.Ordering.TheVariants.{Less, Equal, Greater}
use Rattle.std.specs.Cmp.Lexicographic.{slice_cmp, nat_list_cmp_total}
use Rattle.std.proofs.lemmas.Cmp.{tied_itself}
use Rattle.std.specs.FinMap as map
use Rattle.std.specs.FinMap.Entries.{find, is_sorted, below_all}
use Rattle.object_values.specs.Texts.{Text, Texts}
use Rattle.meaning_texts.specs.Classes.{IsName}
use Rattle.meaning_texts.specs.Lists.{IsIn}
use Rattle.meaning_derive.specs.Given.{AreSources}

abbrev pub Source : Type 0
Source = Text × Text

abbrev by_bytes : Text → Text → Ordering
by_bytes = slice_cmp nat_cmp

-- ---- names

tied : (name : Text) → eq_by_cmp by_bytes name name ≡ true
tied name = ap is_eq (tied_itself nat_list_cmp_total name)

same_by : (a b : Text) (order : Ordering) → by_bytes a b ≡ order → is_eq order ≡ true → a ≡ b
same_by a b Less is ties = cc
same_by a b Equal is ties = map.slice_cmp-IsAntisymmetric map.nat_cmp-IsAntisymmetric a b is
same_by a b Greater is ties = cc

-- two names that tie are one
same_name : (a b : Text) → eq_by_cmp by_bytes a b ≡ true → a ≡ b
same_name a b ties = same_by a b (by_bytes a b) refl ties

-- names are the same, or they differ
pub either_name : (a b : Text) → (a ≡ b) ⊎ (a ≢ b)
either_name a b = by (eq_by_cmp by_bytes a b) refl
  where
    by : (t : Bool) → eq_by_cmp by_bytes a b ≡ t → (a ≡ b) ⊎ (a ≢ b)
    by true e = inl (same_name a b e)
    by false e = inr (λ is. let again : eq_by_cmp by_bytes a b ≡ true = ap (eq_by_cmp by_bytes a) (sym is) ∙ tied a in cc)

apart : (a b : Text) → a ≢ b → eq_by_cmp by_bytes a b ≡ false
apart a b differ = by (eq_by_cmp by_bytes a b) refl
  where
    by : (t : Bool) → eq_by_cmp by_bytes a b ≡ t → t ≡ false
    by true e = absurd (differ (same_name a b e))
    by false e = refl

-- ---- lists in the order of their names

pub first_of : (a b : Bool) → T (a && b) → T a
first_of true b h = tt
first_of false b h = h

pub rest_of : (a b : Bool) → T (a && b) → T b
rest_of true b h = h
rest_of false b h = absurd h

not_below : (order : Ordering) → order ≡ Equal → T (is_lt order) → ⊥
not_below Less e h = cc
not_below Equal e h = h
not_below Greater e h = cc

-- No entry of a list has a name that is below all of its names.
pub other_name : (name : Text) (sources : List Source) (source : Source) → T (below_all by_bytes name sources) → IsIn source sources → source.0 ≢ name
other_name name [] source below is = absurd is
other_name name (s ∷ sources) source below (inl e) =
    λ same. not_below (by_bytes name s.0) (ap (λ (n : Text). by_bytes name n) (sym (ap (λ (x : Source). x.0) e) ∙ same)
    ∙ tied_itself nat_list_cmp_total name) (first_of _ _ below)
other_name name (s ∷ sources) source below (inr i) = other_name name sources source (rest_of _ _ below) i

-- ---- what is found

found_here : (s source : Source) (sources : List Source) → source ≡ s → find by_bytes source.0 (s ∷ sources) ≡ Some source.1
found_here s source sources e =
    ap (λ (x : Source). cond (eq_by_cmp by_bytes source.0 x.0) (Some x.1) (find by_bytes source.0 sources)) (sym e)
    ∙ ap (λ b. cond b (Some source.1) (find by_bytes source.0 sources)) (tied source.0)

found : (sources : List Source) (source : Source) → T (is_sorted by_bytes sources) → IsIn source sources → find by_bytes source.0 sources ≡ Some source.1
found [] source sorted is = absurd is
found (s ∷ sources) source sorted (inl e) = found_here s source sources e
found (s ∷ sources) source sorted (inr i) =
    ap (λ b. cond b (Some s.1) (find by_bytes source.0 sources)) (apart source.0 s.0 (other_name s.0 sources source (first_of _ _ sorted) i))
    ∙ found sources source (rest_of _ _ sorted) i

same_text : (x y : Text) → Some x ≡ Some y → x ≡ y
same_text x y e = cc

found_by : (s : Source) (sources : List Source) (name text : Text) (t : Bool) → eq_by_cmp by_bytes name s.0 ≡ t
    → cond t (Some s.1) (find by_bytes name sources) ≡ Some text
    → (find by_bytes name sources ≡ Some text → IsIn (name, text) sources) → IsIn (name, text) (s ∷ sources)
found_by s sources name text true e there rest = inl (λ i. (same_name name s.0 e i, sym (same_text s.1 text there) i))
found_by s sources name text false e there rest = inr (rest there)

found_is_in : (sources : List Source) (name text : Text) → find by_bytes name sources ≡ Some text → IsIn (name, text) sources
found_is_in [] name text is = cc
found_is_in (s ∷ sources) name text is = found_by s sources name text (eq_by_cmp by_bytes name s.0) refl is (found_is_in sources name text)

-- ---- maps

-- an entry is what the map gives
pub entry_given : (m : Texts) (source : Source) → IsIn source (map.entries m) → map.get m source.0 ≡ Some source.1
entry_given m source is = map.get-entries m source.0 ∙ found (map.entries m) source (map.entries_sorted m) is

-- what the map gives is an entry
pub given_entry : (m : Texts) (name text : Text) → map.get m name ≡ Some text → IsIn (name, text) (map.entries m)
given_entry m name text is = found_is_in (map.entries m) name text (sym (map.get-entries m name) ∙ is)

-- an entry at a place is one
pub entry_in : {A : Type 0} (xs : List A) (place : ℕ) (x : A) → slice_get xs place ≡ Some x → IsIn x xs
entry_in [] place x is = cc
entry_in (y ∷ xs) zero x is = inl (let e : x ≡ y = cc in e)
entry_in (y ∷ xs) (suc place) x is = inr (entry_in xs place x is)

-- within the list there is one
pub entry_within : {A : Type 0} (xs : List A) (place : ℕ) → slice_get xs place ≡ None → place < length xs → ⊥
entry_within xs place none within = elim (slice_get_cases xs place).1 [
  | inl there ↦ let clash : None ≡ Some there.0 = sym none ∙ there.2 in cc
  | inr past ↦ omega (arith, past.0)
]

-- the name of an entry is one
pub entry_named : (m : Texts) (place : ℕ) (source : Source) → AreSources m → slice_get (map.entries m) place ≡ Some source → IsName source.0
entry_named m place source fit there = (fit source.0 source.1 (entry_given m source (entry_in (map.entries m) place source there))).named

-- ---- what is made of entries, one after another

-- one more
pub flat_next : {B : Type 0} (f : Source → List B) (xs : List Source) (place : ℕ) (x : Source) (first now next : List B) → slice_get xs place ≡ Some x
    → now ≡ first ++ flat_map f (take place xs) → next ≡ now ++ f x
    → next ≡ first ++ flat_map f (take (place + 1) xs)
flat_next {B = B} f xs place x first now next at before step =
    let within = slice_get_within xs place x at in
    let taken : take (place + 1) xs ≡ take place xs ++ x ∷ [] = take_more xs place x within
    ∙ ap (λ (y : Source). take place xs ++ y ∷ []) (get_or_from_slice_get xs place x x at) in
    step ∙ ap (λ (l : List B). l ++ f x) before ∙ flat_map_more f first (take place xs) x ∙ ap (λ (l : List Source). first ++ flat_map f l) (sym taken)

-- all of them
pub flat_all : {B : Type 0} (f : Source → List B) (xs : List Source) (place : ℕ) (first now : List B) → length xs ≤ place
    → now ≡ first ++ flat_map f (take place xs) → now ≡ first ++ flat_map f xs
flat_all f xs place first now all before = before ∙ ap (λ (l : List Source). first ++ flat_map f l) (take_all place xs all)
