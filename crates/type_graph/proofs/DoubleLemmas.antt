-- What stands before a declaration in its space.
use Rattle.std.proofs.Common.{◌≡◌, ℕ, Bool, List, [], ◌∷◌, ◌++◌, refl, sym, ap, ◌∙◌, length, take, drop, map, append_assoc, ◌||◌}
use Rattle.std.specs.Prelude.{bytes_eq, filter_map}
use Rattle.std.specs.List.{list_any}
use Rattle.std.proofs.lemmas.List.{take-append-drop, take_at, length-map}
use Rattle.std.proofs.lemmas.List.Elements.{filter_map-append}
use Rattle.object_values.specs.declared.graph.TypeDecl.{TypeDecl}
use Rattle.object_values.specs.declared.graph.SuffixDecl.{SuffixDecl}
use Rattle.object_values.specs.declared.graph.MakerDecl.{MakerDecl}
use Rattle.meaning_graph.specs.Graphs.{Text, Graph, types, suffixes, params, makers}
use Rattle.type_graph.specs.declared.spaces.Space.{Space}
use Rattle.type_graph.specs.declared.spaces.Space.TheVariants.{Types, Suffixes, Params, Makers}
use Rattle.type_graph.specs.Spaces.{name_in, names_in, built_in}
use Rattle.type_graph.proofs.ContextLemmas.{names_of_types, names_of_suffixes, names_of_params, names_of_makers}

any-map : {A B : Type 0} (p : B → Bool) (f : A → B) (xs : List A) → list_any p (map f xs) ≡ list_any (λ x. p (f x)) xs
any-map p f [] = refl
any-map p f (x ∷ xs) = ap (λ b. p (f x) || b) (any-map p f xs)

module _ (g : Graph) (place : ℕ) where
  in_front : (space : Space) → names_in space g ≡ names_in space (take place g) ++ filter_map (name_in space) (drop place g)
  in_front space =
      ap (names_in space) (sym (take-append-drop place g)) ∙ ap (λ l. built_in space ++ l) (filter_map-append (name_in space) (take place g) (drop place g))
      ∙ sym (append_assoc (built_in space) (filter_map (name_in space) (take place g)) (filter_map (name_in space) (drop place g)))

  before : (space : Space) (count : ℕ) → length (names_in space (take place g)) ≡ count → take count (names_in space g) ≡ names_in space (take place g)
  before space count h = ap (take count) (in_front space) ∙ take_at (names_in space (take place g)) (filter_map (name_in space) (drop place g)) count h

  abbrev is_name : Text → Text → Bool
  is_name name n = bytes_eq n name

  pub type_before : (name : Text) (count : ℕ) → count ≡ length (types (take place g)) → list_any (is_name name) (take count (names_in Types g)) ≡ list_any (λ (u : TypeDecl). bytes_eq u.name name) (types (take place g))
  type_before name count h =
      ap (list_any (is_name name)) (before Types count (ap length (names_of_types (take place g)) ∙ length-map (types (take place g)) (λ (t : TypeDecl). t.name) ∙ sym h) ∙ names_of_types (take place g))
      ∙ any-map (is_name name) (λ (t : TypeDecl). t.name) (types (take place g))

  pub suffix_before : (name : Text) (count : ℕ) → count ≡ length (suffixes (take place g)) → list_any (is_name name) (take count (names_in Suffixes g)) ≡ list_any (λ (u : SuffixDecl). bytes_eq u.suffix name) (suffixes (take place g))
  suffix_before name count h =
      ap (list_any (is_name name)) (before Suffixes count (ap length (names_of_suffixes (take place g)) ∙ length-map (suffixes (take place g)) (λ (s : SuffixDecl). s.suffix) ∙ sym h) ∙ names_of_suffixes (take place g))
      ∙ any-map (is_name name) (λ (s : SuffixDecl). s.suffix) (suffixes (take place g))

  pub param_before : (name : Text) (count : ℕ) → count ≡ length (params (take place g)) → list_any (is_name name) (take count (names_in Params g)) ≡ list_any (λ p. bytes_eq p name) (params (take place g))
  param_before name count h = ap (list_any (is_name name)) (before Params count (ap length (names_of_params (take place g)) ∙ sym h) ∙ names_of_params (take place g))

  pub maker_before : (name : Text) (count : ℕ) → count ≡ length (makers (take place g)) → list_any (is_name name) (take count (names_in Makers g)) ≡ list_any (λ (n : MakerDecl). bytes_eq n.name name) (makers (take place g))
  maker_before name count h =
      ap (list_any (is_name name)) (before Makers count (ap length (names_of_makers (take place g)) ∙ length-map (makers (take place g)) (λ (m : MakerDecl). m.name) ∙ sym h) ∙ names_of_makers (take place g))
      ∙ any-map (is_name name) (λ (m : MakerDecl). m.name) (makers (take place g))
