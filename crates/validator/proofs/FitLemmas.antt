-- The test of a record decides whether it fits.
use Rattle.std.proofs.Common.{◌≡◌, ◌≢◌, ℕ, zero, suc, ◌<◌, Bool, true, false, cond, ◌&&◌, List, [], ◌∷◌, length, map, is_some, refl, sym, ap, ◌∙◌, arith, slice_get, filter_map}
use Rattle.std.specs.Prelude.{Option, Some, None, bytes_eq, option_map}
use Rattle.std.specs.List.{list_all}
use Rattle.std.specs.Bool.{Decides}
use Rattle.std.specs.Cmp.Lexicographic.{bytes_decides}
use Rattle.std.proofs.lemmas.Bool.{and_parts, and_from}
use Rattle.std.proofs.lemmas.Option.{slice_get-get_or}
use Rattle.object_values.specs.declared.nodes.Node.{Node}
use Rattle.object_values.specs.declared.views.Part.{Part}
use Rattle.object_values.specs.declared.views.Value.{Value}
use Rattle.object_values.specs.declared.views.Value.TheVariants.{Simple, List as Listed, Compound}
use Rattle.object_values.specs.declared.facts.FactDep.{FactDep}
use Rattle.object_values.specs.declared.facts.Fact.{Fact}
use Rattle.object_values.specs.declared.graph.PartDecl.{PartDecl}
use Rattle.object_values.specs.declared.graph.TypeDecl.{TypeDecl}
use Rattle.object_values.specs.declared.graph.Kind.{Kind}
use Rattle.object_values.specs.declared.graph.Kind.TheVariants.{Simple as SimpleKind, List as ListKind, Compound as CompoundKind}
use Rattle.meaning_texts.proofs.Lemmas.{never_both, value_of_some, in_all, all_in, in_all_pass, all_pass_in}
use Rattle.meaning_graph.specs.Graphs.{Text, Graph, types, text_type, as_type, type_named, kind_of}
use Rattle.meaning_graph.proofs.Lemmas.{is_a_so, so_is_a}
use Rattle.meaning_tasks.specs.Nodes.{Fits, fits, reached_type, type_of}
use Rattle.meaning_tasks.specs.Maps.{IsElementOf, IsOfKind}
use Rattle.meaning_tasks.proofs.Lemmas.{fits_so, so_fits}
use Rattle.odin_nodes.specs.Kinds.{declared_at}
use Rattle.validator.specs.Fitting.{FactFits, serves, are_named, is_of_kind, kind_or_simple, value_fits, fits_typed, fact_fits}
use Rattle.validator.proofs.TypesBelow.{reached_below}

-- ---- names of parts

named_decides : (parts : List Part) (declared : List PartDecl) → Decides (are_named parts declared) (map (λ (p : Part). p.name) parts ≡ map (λ (d : PartDecl). d.name) declared)
named_decides [] [] = (λ e. refl, λ e. refl)
named_decides [] (d ∷ declared) = (λ e. cc, λ e. cc)
named_decides (p ∷ parts) [] = (λ e. cc, λ e. cc)
named_decides (p ∷ parts) (d ∷ declared) =
    let one = bytes_decides p.name d.name in
    let rest = named_decides parts declared in (
      λ e. let h = and_parts (bytes_eq p.name d.name) (are_named parts declared) e in let a = one.0 h.0 in let b = rest.0 h.1 in cc,
      λ e. let a : p.name ≡ d.name = cc in let b : map (λ (p : Part). p.name) parts ≡ map (λ (d : PartDecl). d.name) declared = cc in and_from _ _ (one.1 a) (rest.1 b),
    )

-- lists of unlike lengths
pub apart_unnamed : (parts : List Part) (declared : List PartDecl) → (length parts ≢ length declared) → false ≡ are_named parts declared
apart_unnamed [] [] apart = absurd (apart refl)
apart_unnamed [] (d ∷ declared) apart = refl
apart_unnamed (p ∷ parts) [] apart = refl
apart_unnamed (p ∷ parts) (d ∷ declared) apart = by_test (bytes_eq p.name d.name) (apart_unnamed parts declared (λ e. apart (ap suc e)))
  where
    by_test : (t : Bool) → false ≡ are_named parts declared → false ≡ (t && are_named parts declared)
    by_test true e = e
    by_test false e = refl

module _ (g : Graph) where
  -- ---- types

  pub record HasType (n : Node) (t : ℕ) : Type 0 where
    pub fits : Fits g n
    pub typed : reached_type g n ≡ Some t

  -- the type of a node that fits
  has_type : (n : Node) (t : ℕ) → type_of g n ≡ Some t → HasType n t
  has_type n t e = by_test (fits g n) refl e
    where
      by_test : (b : Bool) → fits g n ≡ b → cond b (reached_type g n) None ≡ Some t → HasType n t
      by_test true f k = record { fits = fits_so g n f; typed = k }
      by_test false f k = cc

  type_is : (n : Node) (t : ℕ) → HasType n t → type_of g n ≡ Some t
  type_is n t h = ap (λ b. cond b (reached_type g n) None) (so_fits g n h.fits) ∙ h.typed

  pub type_below : (n : Node) (t : ℕ) → Some t ≡ type_of g n → t < length (types g)
  type_below n t e = reached_below g n t (has_type n t (sym e)).typed

  -- ---- kinds

  kind_is : (t : ℕ) (k : Kind) → kind_of g t ≡ Some k → kind_or_simple (declared_at g t) ≡ k
  kind_is zero k e = cc
  kind_is (suc t) k e = ap kind_or_simple e

  is_kind : (t : ℕ) → t < length (types g) → kind_of g t ≡ Some (kind_or_simple (declared_at g t))
  is_kind zero below = refl
  is_kind (suc t) below = by_decl (slice_get (filter_map as_type g) t) (value_of_some (slice_get (filter_map as_type g) t) there)
    where
      there : is_some (slice_get (filter_map as_type g) t) ≡ true
      there = ap is_some (slice_get-get_or (filter_map as_type g) t text_type (omega (arith, below)))

      by_decl : (o : Option TypeDecl) → (d : TypeDecl) × (o ≡ Some d) → option_map (λ (d : TypeDecl). d.kind) o ≡ Some (kind_or_simple (option_map (λ (d : TypeDecl). d.kind) o))
      by_decl None r = cc
      by_decl (Some d) r = refl

  -- ---- elements

  element_so : (of : Text) (e : Node) → serves g (type_named g of) (type_of g e) ≡ true → IsElementOf g of e
  element_so of e h = by_types (type_named g of) (type_of g e) refl refl h
    where
      by_types : (named type : Option ℕ) → type_named g of ≡ named → type_of g e ≡ type → serves g named type ≡ true → IsElementOf g of e
      by_types None type p q k = cc
      by_types (Some named) None p q k = cc
      by_types (Some named) (Some type) p q k =
          let has = has_type e type q in
          record { fits = has.fits; type = type; typed = has.typed; named = named; element = p; is = is_a_so g type named k }

  so_element : (of : Text) (e : Node) → IsElementOf g of e → serves g (type_named g of) (type_of g e) ≡ true
  so_element of e i =
      ap (λ named. serves g named (type_of g e)) i.element
      ∙ ap (serves g (Some i.named)) (type_is e i.type (record { fits = i.fits; typed = i.typed }))
      ∙ so_is_a g i.type i.named i.is

  -- ---- values

  kind_so : (k : Kind) (v : Value) → is_of_kind g k v ≡ true → IsOfKind g k v
  kind_so SimpleKind (Simple text) h = tt
  kind_so SimpleKind (Listed elements) h = cc
  kind_so SimpleKind (Compound parts) h = cc
  kind_so (ListKind of) (Simple text) h = cc
  kind_so (ListKind of) (Listed elements) h = λ e i. element_so of e (in_all_pass (λ e. serves g (type_named g of) (type_of g e)) elements h e i)
  kind_so (ListKind of) (Compound parts) h = cc
  kind_so (CompoundKind declared) (Simple text) h = cc
  kind_so (CompoundKind declared) (Listed elements) h = cc
  kind_so (CompoundKind declared) (Compound parts) h = (named_decides parts declared).0 h

  so_kind : (k : Kind) (v : Value) → IsOfKind g k v → is_of_kind g k v ≡ true
  so_kind SimpleKind (Simple text) h = refl
  so_kind SimpleKind (Listed elements) h = absurd h
  so_kind SimpleKind (Compound parts) h = absurd h
  so_kind (ListKind of) (Simple text) h = absurd h
  so_kind (ListKind of) (Listed elements) h = all_pass_in (λ e. serves g (type_named g of) (type_of g e)) elements (λ e i. so_element of e (h e i))
  so_kind (ListKind of) (Compound parts) h = absurd h
  so_kind (CompoundKind declared) (Simple text) h = absurd h
  so_kind (CompoundKind declared) (Listed elements) h = absurd h
  so_kind (CompoundKind declared) (Compound parts) h = (named_decides parts declared).1 h

  -- ---- records

  dep_fits : FactDep → Bool
  dep_fits d = fits g d.node

  fact_so : (fact : Fact) → fact_fits g fact ≡ true → FactFits g fact
  fact_so fact h = by_type (type_of g fact.node) refl h
    where
      by_type : (o : Option ℕ) → type_of g fact.node ≡ o → fits_typed g fact o ≡ true → FactFits g fact
      by_type None e k = cc
      by_type (Some t) e k =
          let has = has_type fact.node t e in
          let parts = and_parts (value_fits g t fact.value) (list_all (λ (d : FactDep). fits g d.node) fact.deps) k in
          record {
            node = has.fits;
            deps = all_in (λ (d : FactDep). Fits g d.node) fact.deps (λ d i. fits_so g d.node (in_all_pass (λ (d : FactDep). fits g d.node) fact.deps parts.1 d i));
            kind = λ type kind v typed is value.
                let same : t ≡ type = cc (has.typed, typed) in
                let tested : is_of_kind g (kind_or_simple (declared_at g t)) v ≡ true = sym (ap (value_fits g t) value) ∙ parts.0 in
                kind_so kind v (ap (λ k. is_of_kind g k v) (sym (kind_is t kind (ap (kind_of g) same ∙ is))) ∙ tested);
          }

  so_fact : (fact : Fact) → FactFits g fact → fact_fits g fact ≡ true
  so_fact fact f =
      let typed = value_of_some (reached_type g fact.node) f.node.typed in
      let t = typed.0 in
      ap (fits_typed g fact) (type_is fact.node t (record { fits = f.node; typed = typed.1 }))
      ∙ and_from (value_fits g t fact.value) (list_all (λ (d : FactDep). fits g d.node) fact.deps)
      (by_value t typed.1 fact.value refl)
      (all_pass_in (λ (d : FactDep). fits g d.node) fact.deps (λ d i. so_fits g d.node (in_all (λ (d : FactDep). Fits g d.node) fact.deps f.deps d i)))
    where
      by_value : (t : ℕ) → reached_type g fact.node ≡ Some t → (o : Option Value) → fact.value ≡ o → value_fits g t o ≡ true
      by_value t typed None e = refl
      by_value t typed (Some v) e = so_kind _ v (f.kind t (kind_or_simple (declared_at g t)) v typed (is_kind t (reached_below g fact.node t typed)) e)

  pub fact_decides : (fact : Fact) → Decides (fact_fits g fact) (FactFits g fact)
  fact_decides fact = (fact_so fact, so_fact fact)

-- what the test says of a record
pub tested_so : (g : Graph) (fact : Fact) → fact_fits g fact ≡ true → FactFits g fact
tested_so g fact h = fact_so g fact h

pub tested_no : (g : Graph) (fact : Fact) → fact_fits g fact ≡ false → ¬ FactFits g fact
tested_no g fact h f = never_both (fact_fits g fact) (so_fact g fact f) h
