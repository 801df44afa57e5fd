-- What follows for types and makers from a graph that is checked.
use Rattle.std.proofs.Common.{◌≡◌, ℕ, zero, suc, ◌-◌, ◌<◌, Bool, true, false, List, [], ◌∷◌, ◌⊎◌, inl, inr, sym, ap, ◌∙◌, subst, refl, arith, slice_get, filter_map, not, ◌&&◌, cond, bytes_eq}
use Rattle.std.specs.Prelude.{Option, Some, None, option_map, option_and_then, unwrap_or, MatchOption}
use Rattle.std.specs.List.{list_all}
use Rattle.std.specs.Option.{option_map_or}
use Rattle.std.proofs.lemmas.Option.{slice_get_cases}
use Rattle.object_values.specs.declared.graph.PartDecl.{PartDecl}
use Rattle.object_values.specs.declared.graph.Kind.{Kind}
use Rattle.object_values.specs.declared.graph.Kind.TheVariants.{Simple, List as ListOf, Compound}
use Rattle.object_values.specs.declared.graph.TypeDecl.{TypeDecl}
use Rattle.object_values.specs.declared.graph.SuffixDecl.{SuffixDecl}
use Rattle.object_values.specs.declared.graph.MakerDecl.{MakerDecl}
use Rattle.object_values.specs.declared.graph.Decl.{Decl}
use Rattle.object_values.specs.declared.graph.Decl.TheVariants.{ObjectType, Suffix, Param, Maker}
use Rattle.object_values.specs.declared.graph.GraphFault.TheVariants.{UnknownType, WrongKind}
use Rattle.meaning_graph.specs.Graphs.{Text, Graph, as_type, as_suffix, as_maker, text_type, types, makers, suffixes, type_named, kind_of, kind_named}
use Rattle.meaning_texts.specs.Lists.{IsIn}
use Rattle.meaning_graph.specs.Suffixes.{IsLongestSuffix, HasNoSuffix, suffix_of, suffix_type, source_type}
use Rattle.meaning_graph.specs.Types.{supers_of, IsA, itself, by_super}
use Rattle.meaning_texts.proofs.Lemmas.{from_chosen, same_some, in_all_pass}
use Rattle.std.proofs.lemmas.Bool.{and_parts, cases_Bool}
use Rattle.meaning_graph.proofs.Lemmas.{named_below, suffix_longest, found_passes}
use Rattle.meaning_graph.specs.Checks.{all_types_known, keeps_rules, keeps_kind, kind_types, super_fits, fits_list, is_simple, is_list, is_compound, is_simple_kind, is_list_kind, is_compound_kind, has_fault, Checked}

-- ---- lists

pub slice_in : {A : Type 0} (xs : List A) (i : ℕ) (x : A) → slice_get xs i ≡ Some x → IsIn x xs
slice_in [] i x e = cc
slice_in (y ∷ xs) zero x e = inl (sym (same_some e))
slice_in (y ∷ xs) (suc i) x e = inr (slice_in xs i x e)

in_slice : {A : Type 0} (xs : List A) (x : A) → IsIn x xs → (i : ℕ) × (slice_get xs i ≡ Some x)
in_slice [] x h = absurd h
in_slice (y ∷ xs) x (inl e) = (0, ap Some (sym e))
in_slice (y ∷ xs) x (inr h) = let r = in_slice xs x h in (suc r.0, r.1)

-- ---- declarations by their kinds

is_type : (d : Decl) (t : TypeDecl) → as_type d ≡ Some t → d ≡ ObjectType t
is_type (ObjectType u) t e = ap ObjectType (same_some e)
is_type (Suffix s) t e = cc
is_type (Param p) t e = cc
is_type (Maker m) t e = cc

is_suffix : (d : Decl) (t : SuffixDecl) → as_suffix d ≡ Some t → d ≡ Suffix t
is_suffix (ObjectType u) t e = cc
is_suffix (Suffix s) t e = ap Suffix (same_some e)
is_suffix (Param p) t e = cc
is_suffix (Maker m) t e = cc

is_maker : (d : Decl) (t : MakerDecl) → as_maker d ≡ Some t → d ≡ Maker t
is_maker (ObjectType u) t e = cc
is_maker (Suffix s) t e = cc
is_maker (Param p) t e = cc
is_maker (Maker m) t e = ap Maker (same_some e)

module _ (g : Graph) where
  pub maker_declared : (k : ℕ) (m : MakerDecl) → slice_get (makers g) k ≡ Some m → IsIn (Maker m) g
  maker_declared k m e = let r = from_chosen as_maker m g (slice_in (makers g) k m e) in subst (λ d. IsIn d g) (is_maker r.0 m r.2) r.1

  suffix_declared : (s : SuffixDecl) → IsIn s (suffixes g) → IsIn (Suffix s) g
  suffix_declared s h = let r = from_chosen as_suffix s g h in subst (λ d. IsIn d g) (is_suffix r.0 s r.2) r.1

  pub type_declared : (t : ℕ) (d : TypeDecl) → slice_get (types g) t ≡ Some d → (d ≡ text_type) ⊎ IsIn (ObjectType d) g
  type_declared zero d e = inl (sym (same_some e))
  type_declared (suc t) d e = let r = from_chosen as_type d g (slice_in (filter_map as_type g) t d e) in inr (subst (λ x. IsIn x g) (is_type r.0 d r.2) r.1)

  -- ---- kinds

  pub record HasDecl (t : ℕ) (k : Kind) : Type 0 where
    pub decl : TypeDecl
    pub there : slice_get (types g) t ≡ Some decl
    pub kind : decl.kind ≡ k

  pub kind_decl : (t : ℕ) (k : Kind) → kind_of g t ≡ Some k → HasDecl t k
  kind_decl t k e = by_decl (slice_get (types g) t) refl e
    where
      by_decl : (o : Option TypeDecl) → slice_get (types g) t ≡ o → option_map (λ d. d.kind) o ≡ Some k → HasDecl t k
      by_decl None q r = cc
      by_decl (Some d) q r = record { decl = d; there = q; kind = same_some r }

  -- each name of a type has a kind
  pub named_kind : (name : Text) (t : ℕ) → type_named g name ≡ Some t → (k : Kind) × (kind_of g t ≡ Some k)
  named_kind name t e = elim (slice_get_cases (types g) t).1 [
    | inl c ↦ (c.0.kind, ap (option_map (λ (d : TypeDecl). d.kind)) c.2)
    | inr c ↦ absurd (omega (arith, c.0, named_below g name t e))
  ]

  pub record HasName (name : Text) (k : Kind) : Type 0 where
    pub number : ℕ
    pub named : type_named g name ≡ Some number
    pub kind : kind_of g number ≡ Some k

  pub kind_name : (name : Text) (k : Kind) → kind_named g name ≡ Some k → HasName name k
  kind_name name k e = by_name (type_named g name) refl e
    where
      by_name : (o : Option ℕ) → type_named g name ≡ o → option_and_then (kind_of g) o ≡ Some k → HasName name k
      by_name None q r = cc
      by_name (Some t) q r = record { number = t; named = q; kind = r }

  pub name_kind : (name : Text) (t : ℕ) → type_named g name ≡ Some t → kind_named g name ≡ kind_of g t
  name_kind name t e = ap (option_and_then (kind_of g)) e

  simple_by : (o : Option Kind) → option_map_or is_simple_kind o false ≡ true → o ≡ Some Simple
  simple_by None h = cc
  simple_by (Some Simple) h = refl
  simple_by (Some (ListOf of)) h = cc
  simple_by (Some (Compound ps)) h = cc

  pub simple_named : (name : Text) → is_simple g name ≡ true → kind_named g name ≡ Some Simple
  simple_named name h = simple_by (kind_named g name) h

  list_by : (o : Option Kind) → option_map_or is_list_kind o false ≡ true → (of : Text) × (o ≡ Some (ListOf of))
  list_by None h = cc
  list_by (Some Simple) h = cc
  list_by (Some (ListOf of)) h = (of, refl)
  list_by (Some (Compound ps)) h = cc

  pub list_named : (name : Text) → is_list g name ≡ true → (of : Text) × (kind_named g name ≡ Some (ListOf of))
  list_named name h = list_by (kind_named g name) h

  compound_by : (o : Option Kind) → option_map_or is_compound_kind o false ≡ true → (ps : List PartDecl) × (o ≡ Some (Compound ps))
  compound_by None h = cc
  compound_by (Some Simple) h = cc
  compound_by (Some (ListOf of)) h = cc
  compound_by (Some (Compound ps)) h = (ps, refl)

  pub compound_named : (name : Text) → is_compound g name ≡ true → (ps : List PartDecl) × (kind_named g name ≡ Some (Compound ps))
  compound_named name h = compound_by (kind_named g name) h

  -- a name of a simple type means a simple type
  pub simple_number : (name : Text) (t : ℕ) → is_simple g name ≡ true → type_named g name ≡ Some t → kind_of g t ≡ Some Simple
  simple_number name t h e = sym (name_kind name t e) ∙ simple_named name h

  module _ (checked : Checked g) where
    pub kept_rules : (d : Decl) → IsIn d g → keeps_rules g d ≡ true
    unfolding has_fault
    kept_rules d h = by_known (cases_Bool (all_types_known g d))
      where
        place : (i : ℕ) × (slice_get g i ≡ Some d)
        place = in_slice g d h

        there : slice_get g (suc place.0 - 1) ≡ Some d
        there = ap (slice_get g) one_less ∙ place.1
          where
            one_less : suc place.0 - 1 ≡ place.0
            one_less = omega arith

        counted : 0 < suc place.0
        counted = omega arith

        by_kept : all_types_known g d ≡ true → (keeps_rules g d ≡ true) ⊎ (keeps_rules g d ≡ false) → keeps_rules g d ≡ true
        by_kept k (inl e) = e
        by_kept k (inr e) = absurd (checked (suc place.0) WrongKind (record { declaration = d; counted = counted; there = there; wrong = λ i. (k i) && not (e i) }))

        by_known : (all_types_known g d ≡ true) ⊎ (all_types_known g d ≡ false) → keeps_rules g d ≡ true
        by_known (inl k) = by_kept k (cases_Bool (keeps_rules g d))
        by_known (inr k) = absurd (checked (suc place.0) UnknownType (record { declaration = d; counted = counted; there = there; wrong = ap not k }))

    -- the types of elements and of parts are simple
    pub contents_simple : (t : ℕ) (k : Kind) → kind_of g t ≡ Some k → (name : Text) → IsIn name (kind_types k) → is_simple g name ≡ true
    contents_simple t k e name h = by_decl (type_declared t d.decl d.there)
      where
        d : HasDecl t k
        d = kind_decl t k e

        by_decl : (d.decl ≡ text_type) ⊎ IsIn (ObjectType d.decl) g → is_simple g name ≡ true
        by_decl (inl q) = absurd (subst (λ x. IsIn name (kind_types x)) (sym d.kind ∙ ap (λ (x : TypeDecl). x.kind) q) h)
        by_decl (inr i) = in_all_pass (is_simple g) (kind_types k) (subst (λ x. list_all (is_simple g) (kind_types x) ≡ true) d.kind (and_parts (keeps_kind g d.decl.kind) _ (kept_rules (ObjectType d.decl) i)).0) name h

    -- what is a simple type is simple
    pub simple_down : (a b : ℕ) → IsA g a b → kind_of g b ≡ Some Simple → kind_of g a ≡ Some Simple
    simple_down a b (itself c) e = e
    simple_down a b (by_super c d f h r) e = by_decl (simple_down d f r e) (slice_get (types g) c) refl h
      where
        by_kind : kind_of g d ≡ Some Simple → (k : Kind) (name : Text) → type_named g name ≡ Some d → super_fits g k name ≡ true → k ≡ Simple
        by_kind below Simple name q s = refl
        by_kind below (ListOf of) name q s = let bad : fits_list g of (Some Simple) ≡ true = ap (fits_list g of) (sym below ∙ sym (name_kind name d q)) ∙ s in cc
        by_kind below (Compound ps) name q s = cc

        by_declared : kind_of g d ≡ Some Simple → (t : TypeDecl) → slice_get (types g) c ≡ Some t → (name : Text) → IsIn name t.supers → type_named g name ≡ Some d → (t ≡ text_type) ⊎ IsIn (ObjectType t) g → kind_of g c ≡ Some Simple
        by_declared below t q name i n (inl x) = absurd (subst (λ (y : TypeDecl). IsIn name y.supers) x i)
        by_declared below t q name i n (inr x) =
            let rules = and_parts (keeps_kind g t.kind) (list_all (super_fits g t.kind) t.supers) (kept_rules (ObjectType t) x) in
            ap (option_map (λ (y : TypeDecl). y.kind)) q ∙ ap Some (by_kind below t.kind name n (in_all_pass (super_fits g t.kind) t.supers rules.1 name i))

        by_decl : kind_of g d ≡ Some Simple → (o : Option TypeDecl) → slice_get (types g) c ≡ o → IsIn d (supers_of g o) → kind_of g c ≡ Some Simple
        by_decl below None q i = absurd i
        by_decl below (Some t) q i = let x = from_chosen (type_named g) d t.supers i in by_declared below t q x.0 x.1 x.2 (type_declared c t q)

    -- a source is simple
    pub source_simple : (name : Text) → kind_of g (source_type g name) ≡ Some Simple
    unfolding source_type
    source_simple name = by_suffix (suffix_of g name) (suffix_longest g name)
      where
        first_or_zero : (b : Bool) → kind_of g (unwrap_or (cond b (Some 0) None) 0) ≡ Some Simple
        first_or_zero true = refl
        first_or_zero false = refl

        by_suffix : (o : Option SuffixDecl) → MatchOption o (HasNoSuffix g name) (IsLongestSuffix g name) → kind_of g (unwrap_or (type_named g (suffix_type o)) 0) ≡ Some Simple
        by_suffix None m = first_or_zero _
        by_suffix (Some s) m =
            let i = (found_passes (λ d. bytes_eq d.suffix s.suffix) (suffixes g) s m.first).0 in
            let n = kind_name s.of Simple (simple_named s.of (kept_rules (Suffix s) (suffix_declared s i))) in
            ap (λ o. kind_of g (unwrap_or o 0)) n.named ∙ n.kind
