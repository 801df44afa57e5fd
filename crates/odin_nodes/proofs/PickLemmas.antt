-- What keys pick.
use Rattle.std.proofs.Common.{◌≡◌, ℕ, suc, ◌+◌, ◌-◌, ◌^◌, ◌<◌, ◌≤◌, true, false, cond, ◌&&◌, nat_lt, List, ◌∷◌, length, get_or, drop, filter_map, slice_get, decimal, refl, sym, ap, ◌∙◌, arith}
use Rattle.std.specs.Prelude.{Option, Some, None, bytes_eq, find, option_map, option_and_then}
use Rattle.std.specs.Str.Parse.{digits_value}
use Rattle.std.specs.Cmp.Lexicographic.{bytes_decides}
use Rattle.std.proofs.lemmas.Fmt.{decimal_is_IsNumeral}
use Rattle.std.proofs.lemmas.List.{at_drop_more, at_drop_all}
use Rattle.object_values.specs.declared.views.Part.{Part}
use Rattle.object_values.specs.declared.views.Value.{Value}
use Rattle.object_values.specs.declared.views.Value.TheVariants.{Compound as CompoundValue}
use Rattle.object_values.specs.declared.graph.PartDecl.{PartDecl}
use Rattle.object_values.specs.declared.graph.Kind.TheVariants.{Compound}
use Rattle.object_values.specs.declared.graph.TypeDecl.{TypeDecl}
use Rattle.object_values.specs.declared.graph.Decl.{Decl}
use Rattle.object_values.specs.declared.graph.Decl.TheVariants.{ObjectType, Suffix, Param, Maker}
use Rattle.meaning_texts.specs.Limits.{element_bound}
use Rattle.meaning_graph.specs.Graphs.{Text, Graph, type_named, as_type, kind_of}
use Rattle.meaning_tasks.specs.Nodes.{is_number, element_number, picked_type}
use Rattle.meaning_tasks.specs.Values.{body, pick}

-- ---- declared types

-- the declared type at a place after the first so many declarations
abbrev pub declared_from : List Decl → ℕ → ℕ → Option TypeDecl
declared_from decls i left = slice_get (filter_map as_type (drop i decls)) left

module _ (decls : List Decl) (i left : ℕ) (d : Decl) (below : i < length decls) (is : d ≡ get_or decls i d) where
  at_here : (e : Decl) → d ≡ e → declared_from decls i left ≡ slice_get (filter_map as_type (e ∷ drop (i + 1) decls)) left
  at_here e same =
      at_drop_more (λ ds. slice_get (filter_map as_type ds) left) decls i d below
      ∙ ap (λ x. slice_get (filter_map as_type (x ∷ drop (i + 1) decls)) left) (sym is ∙ same)

  pub type_here : (t : TypeDecl) → d ≡ ObjectType t → left ≡ 0 → declared_from decls i left ≡ Some t
  type_here t same first = at_here (ObjectType t) same ∙ ap (slice_get (t ∷ filter_map as_type (drop (i + 1) decls))) first

  pub type_passed : (t : TypeDecl) → d ≡ ObjectType t → 0 < left → declared_from decls i left ≡ declared_from decls (i + 1) (left - 1)
  type_passed t same more =
      let one : left ≡ suc (left - 1) = omega (arith, more) in
      at_here (ObjectType t) same ∙ ap (slice_get (t ∷ filter_map as_type (drop (i + 1) decls))) one

  pub other_passed : as_type d ≡ None → declared_from decls i left ≡ declared_from decls (i + 1) left
  other_passed none = at_here d refl ∙ passed d none
    where
      passed : (e : Decl) → as_type e ≡ None → slice_get (filter_map as_type (e ∷ drop (i + 1) decls)) left ≡ declared_from decls (i + 1) left
      passed (ObjectType t) h = cc
      passed (Suffix s) h = refl
      passed (Param p) h = refl
      passed (Maker m) h = refl

pub none_left : (decls : List Decl) (i left : ℕ) → length decls ≤ i → declared_from decls i left ≡ None
none_left decls i left past = at_drop_all (λ ds. slice_get (filter_map as_type ds) left) decls i past

pub no_type_decl : (d : Decl) → ((t : TypeDecl) → d ≡ ObjectType t → ⊥) → as_type d ≡ None
no_type_decl (ObjectType t) h = absurd (h t refl)
no_type_decl (Suffix s) h = refl
no_type_decl (Param p) h = refl
no_type_decl (Maker m) h = refl

-- ---- the kind of a type

-- nothing is picked from a text
pub text_picks : (g : Graph) (key : Text) (from : ℕ) → from ≡ 0 → None ≡ picked_type g key (kind_of g from)
text_picks g key from first = sym (ap (λ t. picked_type g key (kind_of g t)) first)

declared_kind : (g : Graph) (from : ℕ) → 0 < from → kind_of g from ≡ option_map (λ (t : TypeDecl). t.kind) (slice_get (filter_map as_type g) (from - 1))
declared_kind g from h = let one : from ≡ suc (from - 1) = omega (arith, h) in ap (kind_of g) one

pub kind_declared : (g : Graph) (key : Text) (from : ℕ) (t : TypeDecl) → 0 < from → Some t ≡ slice_get (filter_map as_type g) (from - 1) → picked_type g key (Some t.kind) ≡ picked_type g key (kind_of g from)
kind_declared g key from t h is = sym (ap (picked_type g key) (declared_kind g from h ∙ ap (option_map (λ (t : TypeDecl). t.kind)) (sym is)))

pub kind_none : (g : Graph) (key : Text) (from : ℕ) → 0 < from → None ≡ slice_get (filter_map as_type g) (from - 1) → None ≡ picked_type g key (kind_of g from)
kind_none g key from h is = sym (ap (picked_type g key) (declared_kind g from h ∙ ap (option_map (λ (t : TypeDecl). t.kind)) (sym is)))

pub part_picked : (g : Graph) (key : Text) (parts : List PartDecl) (p : PartDecl) → Some p ≡ find (λ (p : PartDecl). bytes_eq p.name key) parts → type_named g p.of ≡ picked_type g key (Some (Compound parts))
part_picked g key parts p is = ap (option_and_then (λ (p : PartDecl). type_named g p.of)) is

-- ---- keys that are numbers

-- the number of an element, by the number that is read
number_of : (key : Text) (number : ℕ) → key ≡ decimal number → number < 2 ^ 64 → element_number key ≡ cond (nat_lt 0 number && nat_lt number element_bound) (Some number) None
number_of key number is small =
    let value : digits_value 10 key ≡ number = ap (digits_value 10) is ∙ (decimal_is_IsNumeral number small).1 in
    let same : bytes_eq (decimal number) key ≡ true = (bytes_decides (decimal number) key).1 (sym is) in
    ap (λ k. cond (is_number k key) (Some k) None) value
    ∙ ap (λ b. cond (b && nat_lt 0 number && nat_lt number element_bound) (Some number) None) same

pub number_is : (key : Text) (number : ℕ) → key ≡ decimal number → number < 2 ^ 64 → (nat_lt 0 number && nat_lt number element_bound) ≡ true → Some number ≡ element_number key
number_is key number is small tests = sym (number_of key number is small ∙ ap (λ b. cond b (Some number) None) tests)

pub number_is_none : (key : Text) (number : ℕ) → key ≡ decimal number → number < 2 ^ 64 → (nat_lt 0 number && nat_lt number element_bound) ≡ false → None ≡ element_number key
number_is_none key number is small tests = sym (number_of key number is small ∙ ap (λ b. cond b (Some number) None) tests)

-- the part of that name
pub body_picked : (value : Value) (key : Text) (parts : List Part) (p : Part) → value ≡ CompoundValue parts → Some p ≡ find (λ (p : Part). bytes_eq p.name key) parts → Some (body p.body) ≡ pick value key
body_picked value key parts p is found = ap (option_map (λ (p : Part). body p.body)) found ∙ ap (λ v. pick v key) (sym is)
