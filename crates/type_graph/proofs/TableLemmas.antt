-- What the tables of a graph give of its declarations.
use Rattle.std.proofs.Common.{◌≡◌, ℕ, suc, ◌^◌, ◌||◌, ◌<◌, ◌≤◌, Bool, true, false, List, [], ◌∷◌, refl, sym, ap, ◌∙◌, length, arith, cond, map, slice_get, position, filter_map, get_or}
use Rattle.std.specs.Prelude.{Option, Some, None, bytes_eq, is_some, find, option_map, option_and_then}
use Rattle.std.specs.Prelude.{Result, Ok, Err}
use Rattle.std.specs.Result.{IsErrAnd}
use Rattle.std.specs.List.{list_any, cons_option}
use Rattle.std.proofs.lemmas.Result.{err_from_is_err_and}
use Rattle.type_graph.specs.declared.fault.CheckFault.{CheckFault}
use Rattle.std.proofs.lemmas.List.{length-map}
use Rattle.std.proofs.lemmas.Option.{slice_get-map, slice_get-get_or, slice_get_past}
use Rattle.meaning_texts.specs.Limits.{declaration_limit}
use Rattle.std.proofs.lemmas.List.Quantifiers.{position-Some}
use Rattle.object_values.specs.declared.graph.TypeDecl.{TypeDecl}
use Rattle.object_values.specs.declared.graph.MakerDecl.{MakerDecl}
use Rattle.object_values.specs.declared.graph.Decl.{Decl}
use Rattle.object_values.specs.declared.graph.Decl.TheVariants.{ObjectType, Suffix, Param, Maker}
use Rattle.meaning_graph.specs.Graphs.{Text, Graph, types, params, makers, type_named, has_param, as_type, as_maker, text_type}
use Rattle.type_graph.specs.Places.{Places, place_of, AreOf}
use Rattle.type_graph.specs.Tables.{type_names, ArePlacesOfMakers, maker_at}
use Rattle.type_graph.proofs.PlaceLemmas.{position-cons}

pub position-map : {A B : Type 0} (p : B → Bool) (f : A → B) (xs : List A) → position p (map f xs) ≡ position (λ x. p (f x)) xs
position-map p f [] = refl
position-map p f (x ∷ xs) = position-cons p (f x) (map f xs) ∙ ap (λ o. cond (p (f x)) (Some 0) (option_map suc o)) (position-map p f xs) ∙ sym (position-cons (λ y. p (f y)) x xs)

is_some-suc : (o : Option ℕ) → is_some (option_map suc o) ≡ is_some o
is_some-suc None = refl
is_some-suc (Some n) = refl

is_some-cond : (b : Bool) (o : Option ℕ) → is_some (cond b (Some 0) o) ≡ cond b true (is_some o)
is_some-cond true o = refl
is_some-cond false o = refl

is_some-or : (b c : Bool) → cond b true c ≡ b || c
is_some-or true c = refl
is_some-or false c = refl

pub is_some-position : {A : Type 0} (p : A → Bool) (xs : List A) → is_some (position p xs) ≡ list_any p xs
is_some-position p [] = refl
is_some-position p (x ∷ xs) = ap is_some (position-cons p x xs) ∙ is_some-cond (p x) (option_map suc (position p xs)) ∙ ap (cond (p x) true) (is_some-suc (position p xs) ∙ is_some-position p xs) ∙ is_some-or (p x) (list_any p xs)

one_more : {B : Type 0} (o : Option B) (ys : List B) (n : ℕ) → length ys ≤ n → length (cons_option o ys) ≤ suc n
one_more None ys n h = omega (arith, h)
one_more (Some y) ys n h = omega (arith, h)

pub few_found : {A B : Type 0} (f : A → Option B) (xs : List A) → length (filter_map f xs) ≤ length xs
few_found f [] = omega arith
few_found f (x ∷ xs) = one_more (f x) (filter_map f xs) (length xs) (few_found f xs)

-- a graph of few declarations has few types and makers
pub few_types : (g : Graph) → length g ≤ declaration_limit → length (types g) < 2 ^ 32
few_types g h = omega (arith, h, few_found as_type g)

pub few_makers : (g : Graph) → length g ≤ declaration_limit → length (makers g) < 2 ^ 32
few_makers g h = omega (arith, h, few_found as_maker g)

module _ (g : Graph) (pairs : Places) where
  pub type_there : AreOf pairs (type_names g) → (name : Text) → place_of pairs name ≡ type_named g name
  type_there are name = are name ∙ position-map (λ n. bytes_eq n name) (λ (t : TypeDecl). t.name) (types g)

  pub param_there : AreOf pairs (params g) → (name : Text) → is_some (place_of pairs name) ≡ has_param g name
  param_there are name = ap is_some (are name) ∙ is_some-position (λ n. bytes_eq n name) (params g)

  -- the number of a type fits
  pub type_fits : AreOf pairs (type_names g) → length g ≤ declaration_limit → (name : Text) (number : ℕ) → place_of pairs name ≡ Some number → number < 2 ^ 32
  type_fits are few name number h =
      let there = position-Some (λ (t : TypeDecl). bytes_eq t.name name) (types g) number text_type (sym (type_there are name) ∙ h) in
      omega (arith, there.0, few_types g few)

-- ---- makers

module _ (g : Graph) (places : List ℕ) (are : ArePlacesOfMakers g places) where
  got : (n : ℕ) → option_map (maker_at g) (slice_get places n) ≡ option_map Some (slice_get (makers g) n)
  got n = sym (slice_get-map (maker_at g) places n) ∙ ap (λ l. slice_get l n) are ∙ slice_get-map Some (makers g) n

  none_of : (o : Option MakerDecl) → None ≡ option_map Some o → o ≡ None
  none_of None h = refl
  none_of (Some m) h = cc

  same_of : (o : Option MakerDecl) (m : Option MakerDecl) → Some m ≡ option_map Some o → o ≡ m
  same_of None m h = cc
  same_of (Some k) m h = cc

  pub no_maker : (n : ℕ) → slice_get places n ≡ None → slice_get (makers g) n ≡ None
  no_maker n h = none_of (slice_get (makers g) n) (sym (ap (option_map (maker_at g)) h) ∙ got n)

  pub maker_there : (n place : ℕ) → slice_get places n ≡ Some place → slice_get (makers g) n ≡ maker_at g place
  maker_there n place h = same_of (slice_get (makers g) n) (maker_at g place) (sym (ap (option_map (maker_at g)) h) ∙ got n)

  pub maker_count : length places ≡ length (makers g)
  maker_count = sym (length-map places (maker_at g)) ∙ ap length are ∙ length-map (makers g) Some

-- ---- suffixes

moved_find : {A : Type 0} (x : A) (xs : List A) (b : Bool) (o : Option ℕ) (f : Option A) → f ≡ option_and_then (slice_get xs) o
    → cond b (Some x) f ≡ option_and_then (slice_get (x ∷ xs)) (cond b (Some 0) (option_map suc o))
moved_find x xs true o f h = refl
moved_find x xs false None f h = h
moved_find x xs false (Some n) f h = h

pub find-position : {A : Type 0} (p : A → Bool) (xs : List A) → find p xs ≡ option_and_then (slice_get xs) (position p xs)
find-position p [] = refl
find-position p (x ∷ xs) = moved_find x xs (p x) (position p xs) (find p xs) (find-position p xs) ∙ ap (option_and_then (slice_get (x ∷ xs))) (sym (position-cons p x xs))

-- a found maker's declaration
pub maker_here : (g : Graph) (place : ℕ) (d : Decl) → slice_get g place ≡ Some d → maker_at g place ≡ as_maker d
maker_here g place d h = ap (option_and_then as_maker) h

pub none_here : (g : Graph) (place : ℕ) → slice_get g place ≡ None → maker_at g place ≡ None
none_here g place h = ap (option_and_then as_maker) h

pub no_other : (d : Decl) → ((m : MakerDecl) → d ≡ Maker m → ⊥) → as_maker d ≡ None
no_other (ObjectType t) h = refl
no_other (Suffix s) h = refl
no_other (Param p) h = refl
no_other (Maker m) h = absurd (h m refl)

-- ---- what a slice gives at a place

pub read_at : {A : Type 0} (xs ys : List A) (n : ℕ) (x : A) → xs ≡ ys → n < length xs → ((d : A) → x ≡ get_or xs n d) → slice_get ys n ≡ Some x
read_at xs ys n x same below is = ap (λ l. slice_get l n) (sym same) ∙ slice_get-get_or xs n x below ∙ ap Some (sym (is x))

pub past_at : {A : Type 0} (xs ys : List A) (n : ℕ) → xs ≡ ys → length xs ≤ n → slice_get ys n ≡ None
past_at xs ys n same past = ap (λ l. slice_get l n) (sym same) ∙ slice_get_past xs n past

-- ---- errors that are handed on

-- the same error of a call that would give something else
abbrev pub handed_on : {T U : Type 0} → Result T CheckFault → Result U CheckFault
handed_on (Ok x) = Err CheckFault.Memory
handed_on (Err e) = Err e

abbrev pub err_of : (U : Type 0) → CheckFault → Result U CheckFault
err_of U e = Err e

pub handed_back : {T U : Type 0} (r : Result T CheckFault) (e why : CheckFault) → IsErrAnd r (λ v. v ≡ e) → r ≡ Err why → err_of U e ≡ err_of U why
handed_back r e why is h = let same = err_from_is_err_and r is in ap handed_on (ap Err (sym same.2) ∙ sym same.1 ∙ h)
