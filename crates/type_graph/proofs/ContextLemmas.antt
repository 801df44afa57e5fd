-- The tables of a context belong to its declarations.
use Rattle.std.proofs.Common.{◌≡◌, ℕ, zero, suc, ◌+◌, ◌^◌, ◌<◌, ◌≤◌, Bool, true, false, List, [], ◌∷◌, ◌++◌, refl, sym, ap, ◌∙◌, subst, length, arith, map, take, get_or, slice_get, append-nil}
use Rattle.std.specs.Prelude.{Option, Some, None, bytes_eq, filter_map, unwrap_or}
use Rattle.std.specs.List.{list_any, cons_option}
use Rattle.std.specs.Option.{option_to_list}
use Rattle.std.proofs.lemmas.List.{take_more, length-map, map-append}
use Rattle.std.proofs.lemmas.List.Elements.{filter_map-append}
use Rattle.std.proofs.lemmas.List.Quantifiers.{position-Some}
use Rattle.object_values.specs.declared.graph.TypeDecl.{TypeDecl}
use Rattle.object_values.specs.declared.graph.SuffixDecl.{SuffixDecl}
use Rattle.object_values.specs.declared.graph.MakerDecl.{MakerDecl}
use Rattle.object_values.specs.declared.graph.Decl.{Decl}
use Rattle.object_values.specs.declared.graph.Decl.TheVariants.{ObjectType, Suffix, Param, Maker}
use Rattle.meaning_texts.specs.Limits.{declaration_limit}
use Rattle.meaning_texts.specs.Lists.{IsIn}
use Rattle.meaning_graph.specs.Graphs.{Text, Graph, types, params, makers, type_named, as_type, as_suffix, text_type}
use Rattle.meaning_graph.specs.Types.{IsA, itself, by_super, is_a}
use Rattle.meaning_graph.specs.Types as order
use Rattle.meaning_texts.proofs.Lemmas.{from_chosen, one_passes, passes_one}
use Rattle.meaning_graph.proofs.Lemmas.{is_a_so, so_is_a}
use Rattle.type_graph.specs.declared.spaces.Space.TheVariants.{Types, Suffixes, Params, Makers}
use Rattle.type_graph.specs.declared.context.Kinds.{Kinds}
use Rattle.type_graph.specs.Places.{Places, place_of, AreOf}
use Rattle.type_graph.specs.Spaces.{name_in, names_in}
use Rattle.type_graph.specs.Shapes.{shapes_of, supers_of_all, AreKindsBy, AreKinds}
use Rattle.type_graph.specs.Tables.{type_names, suffix_names}
use Rattle.type_graph.specs.Walks.{Leads, here, over, IsReachedFrom}
use Rattle.type_graph.proofs.TableLemmas.{type_there, few_types}

-- ---- the names of the spaces

typed_names : (g : Graph) → filter_map (name_in Types) g ≡ map (λ (t : TypeDecl). t.name) (filter_map as_type g)
typed_names [] = refl
typed_names (ObjectType t ∷ g) = ap (λ l. t.name ∷ l) (typed_names g)
typed_names (Suffix s ∷ g) = typed_names g
typed_names (Param p ∷ g) = typed_names g
typed_names (Maker m ∷ g) = typed_names g

pub names_of_types : (g : Graph) → names_in Types g ≡ type_names g
names_of_types g = ap (λ l. text_type.name ∷ l) (typed_names g)

pub names_of_suffixes : (g : Graph) → names_in Suffixes g ≡ suffix_names g
names_of_suffixes [] = refl
names_of_suffixes (ObjectType t ∷ g) = names_of_suffixes g
names_of_suffixes (Suffix s ∷ g) = ap (λ l. s.suffix ∷ l) (names_of_suffixes g)
names_of_suffixes (Param p ∷ g) = names_of_suffixes g
names_of_suffixes (Maker m ∷ g) = names_of_suffixes g

pub names_of_params : (g : Graph) → names_in Params g ≡ params g
names_of_params [] = refl
names_of_params (ObjectType t ∷ g) = names_of_params g
names_of_params (Suffix s ∷ g) = names_of_params g
names_of_params (Param p ∷ g) = ap (λ l. p ∷ l) (names_of_params g)
names_of_params (Maker m ∷ g) = names_of_params g

pub names_of_makers : (g : Graph) → names_in Makers g ≡ map (λ (m : MakerDecl). m.name) (makers g)
names_of_makers [] = refl
names_of_makers (ObjectType t ∷ g) = names_of_makers g
names_of_makers (Suffix s ∷ g) = names_of_makers g
names_of_makers (Param p ∷ g) = names_of_makers g
names_of_makers (Maker m ∷ g) = ap (λ l. m.name ∷ l) (names_of_makers g)

-- the table of types numbers names as the graph does
pub place_is_number : (g : Graph) (typed : Places) → AreOf typed (names_in Types g) → (name : Text) → place_of typed name ≡ type_named g name
place_is_number g typed are name = type_there g typed (subst (AreOf typed) (names_of_types g) are) name

pub numbering : (g : Graph) (typed : Places) → AreOf typed (names_in Types g) → place_of typed ≡ type_named g
numbering g typed are = λ i name. place_is_number g typed are name i

-- ---- item by item

pub chosen_push : {A B : Type 0} (f : A → Option B) (xs : List A) (i : ℕ) (x : A) → i < length xs → x ≡ get_or xs i x → filter_map f (take (i + 1) xs) ≡ filter_map f (take i xs) ++ option_to_list (f x)
chosen_push f xs i x below is =
    ap (filter_map f) (take_more xs i x below) ∙ ap (λ y. filter_map f (take i xs ++ y ∷ [])) (sym is) ∙ filter_map-append f (take i xs) (x ∷ []) ∙ ap (λ l. filter_map f (take i xs) ++ l) (one_of (f x))
  where
    one_of : {B : Type 0} (o : Option B) → cons_option o [] ≡ option_to_list o
    one_of None = refl
    one_of (Some y) = refl

pub types_push : (g : Graph) (i : ℕ) (d : Decl) → i < length g → d ≡ get_or g i d → types (take (i + 1) g) ≡ types (take i g) ++ option_to_list (as_type d)
types_push g i d below is = ap (λ l. text_type ∷ l) (chosen_push as_type g i d below is)

-- ---- supertypes

-- a name's number is that of a type
pub number_within : (g : Graph) (name : Text) (number : ℕ) → type_named g name ≡ Some number → number < length (types g)
number_within g name number h = (position-Some (λ (t : TypeDecl). bytes_eq t.name name) (types g) number text_type h).0

supers_at : (g : Graph) (ts : List TypeDecl) (a : ℕ) → order.supers_of g (slice_get ts a) ≡ get_or (supers_of_all (type_named g) ts) a []
supers_at g [] a = refl
supers_at g (t ∷ ts) zero = refl
supers_at g (t ∷ ts) (suc a) = supers_at g ts a

module _ (g : Graph) (supers : List (List ℕ)) (are : supers ≡ supers_of_all (type_named g) (types g)) where
  pub above_of : (a : ℕ) → get_or supers a [] ≡ order.supers g a
  above_of a = ap (λ l. get_or l a []) are ∙ sym (supers_at g (types g) a)

  pub each_type : length supers ≡ length (types g)
  each_type = ap length are ∙ length-map (types g) (λ (t : TypeDecl). filter_map (type_named g) t.supers)

  in_types : (t : Option TypeDecl) (other : ℕ) → IsIn other (order.supers_of g t) → other < length (types g)
  in_types None other h = absurd h
  in_types (Some t) other h = let r = from_chosen (type_named g) other t.supers h in number_within g r.0 other r.2

  pub supers_within : (number other : ℕ) → IsIn other (get_or supers number []) → other < length supers
  supers_within number other h = subst (λ n. other < n) (sym each_type) (in_types (slice_get (types g) number) other (subst (IsIn other) (above_of number) h))

  pub leads_up : (a b : ℕ) → Leads supers a b → IsA g a b
  leads_up a b (here c) = itself c
  leads_up a b (over c d e i r) = by_super c d e (subst (IsIn d) (above_of c) i) (leads_up d e r)

  pub up_leads : (a b : ℕ) → IsA g a b → Leads supers a b
  up_leads a b (itself c) = here c
  up_leads a b (by_super c d e i r) = over c d e (subst (IsIn d) (sym (above_of c)) i) (up_leads d e r)

  pub alike : (a b : Bool) → (a ≡ true → b ≡ true) → (b ≡ true → a ≡ true) → a ≡ b
  alike true b f h = sym (f refl)
  alike false true f h = h refl
  alike false false f h = refl

  -- a walk's answer is that of the order of types
  pub above_is : (starts : List ℕ) (row : List Bool) (n : ℕ) → (get_or row n false ≡ true → IsReachedFrom supers starts n) → (IsReachedFrom supers starts n → get_or row n false ≡ true) → get_or row n false ≡ list_any (λ start. is_a g start n) starts
  above_is starts row n to from = alike (get_or row n false) (list_any (λ start. is_a g start n) starts)
      (λ h. let r = to h in passes_one (λ start. is_a g start n) r.0 starts r.1 (so_is_a g r.0 n (leads_up r.0 n r.2)))
      (λ h. let r = one_passes (λ start. is_a g start n) starts h in from (r.0, r.1, up_leads r.0 n (is_a_so g r.0 n r.2)))

-- ---- a new context

pub kinds_of : (g : Graph) (typed : Places) (kinds : Kinds) → AreOf typed (names_in Types g) → AreKindsBy (place_of typed) (types g) kinds → AreKinds g kinds
kinds_of g typed kinds named k = record {
  shapes_are = k.shapes_are ∙ ap (λ f. shapes_of f (types g)) (numbering g typed named);
  supers_are = k.supers_are ∙ ap (λ f. supers_of_all f (types g)) (numbering g typed named);
}

-- ---- the tables of types, declaration by declaration

module _ {B : Type 0} (f : TypeDecl → B) (g : Graph) (i : ℕ) (d : Decl) (below : i < length g) (is : d ≡ get_or g i d) (made : List B) (so_far : made ≡ map f (types (take i g))) where
  pub table_push : (t : TypeDecl) → d ≡ ObjectType t → made ++ f t ∷ [] ≡ map f (types (take (i + 1) g))
  table_push t e =
      ap (λ l. l ++ f t ∷ []) so_far ∙ sym (map-append f (types (take i g)) (t ∷ []))
      ∙ ap (λ o. map f (types (take i g) ++ option_to_list o)) (sym (ap as_type e)) ∙ ap (map f) (sym (types_push g i d below is))

  pub table_stays : ((t : TypeDecl) → d ≡ ObjectType t → ⊥) → made ≡ map f (types (take (i + 1) g))
  table_stays differs = so_far ∙ ap (map f) (sym (append-nil (types (take i g)))) ∙ ap (λ o. map f (types (take i g) ++ option_to_list o)) (sym (other d differs)) ∙ ap (map f) (sym (types_push g i d below is))
    where
      other : (e : Decl) → ((t : TypeDecl) → e ≡ ObjectType t → ⊥) → as_type e ≡ None
      other (ObjectType t) h = absurd (h t refl)
      other (Suffix s) h = refl
      other (Param p) h = refl
      other (Maker m) h = refl

-- a table of what is chosen, item by item
module _ {A B C : Type 0} (h : A → Option B) (f : B → C) (xs : List A) (i : ℕ) (x : A) (below : i < length xs) (is : x ≡ get_or xs i x) where
  pub mapped_push : (y : B) → h x ≡ Some y → map f (filter_map h (take i xs)) ++ f y ∷ [] ≡ map f (filter_map h (take (i + 1) xs))
  mapped_push y e =
      sym (map-append f (filter_map h (take i xs)) (y ∷ [])) ∙ ap (λ o. map f (filter_map h (take i xs) ++ option_to_list o)) (sym e) ∙ ap (map f) (sym (chosen_push h xs i x below is))

  pub mapped_stays : h x ≡ None → map f (filter_map h (take i xs)) ≡ map f (filter_map h (take (i + 1) xs))
  mapped_stays e =
      ap (map f) (sym (append-nil (filter_map h (take i xs)))) ∙ ap (λ o. map f (filter_map h (take i xs) ++ option_to_list o)) (sym e) ∙ ap (map f) (sym (chosen_push h xs i x below is))

-- a number that a name has, or 0, fits
pub number_fits : (g : Graph) (name : Text) → length g ≤ declaration_limit → (o : Option ℕ) → o ≡ type_named g name → unwrap_or o 0 < 2 ^ 32
number_fits g name few None h = omega arith
number_fits g name few (Some n) h = omega (arith, number_within g name n (sym h), few_types g few)

pub no_suffix_there : (d : Decl) → ((s : SuffixDecl) → d ≡ Suffix s → ⊥) → as_suffix d ≡ None
no_suffix_there (ObjectType t) h = refl
no_suffix_there (Suffix s) h = absurd (h s refl)
no_suffix_there (Param p) h = refl
no_suffix_there (Maker m) h = refl
