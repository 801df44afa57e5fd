-- The suffix of a name, by a table of the declared ones.
use Rattle.std.proofs.Common.{◌≡◌, ℕ, ◌<◌, [], ◌∷◌, sym, ap, ◌∙◌, length, arith, slice_get, position, slice_index_or, get_or, filter_map}
use Rattle.std.specs.Prelude.{Option, Some, None, bytes_eq, find, option_and_then, option_map, unwrap_or, codes}
use Rattle.std.proofs.lemmas.List.{length-map}
use Rattle.std.proofs.lemmas.List.Quantifiers.{position-Some}
use Rattle.std.proofs.lemmas.Option.{slice_get-get_or, slice_get-map, get_or_from_slice_get}
use Rattle.object_values.specs.declared.graph.SuffixDecl.{SuffixDecl}
use Rattle.meaning_graph.specs.Graphs.{Text, Graph, suffixes, type_named, as_type, text_type}
use Rattle.meaning_graph.specs.Suffixes.{or_later, suffix_of, suffix_type, source_type}
use Rattle.type_graph.specs.Places.{Places, place_of, AreOf}
use Rattle.type_graph.specs.Tables.{suffix_names, suffix_types}
use Rattle.type_graph.proofs.PlaceLemmas.{position-cons}
use Rattle.type_graph.proofs.TableLemmas.{position-map, find-position}

empty : SuffixDecl
empty = record { suffix = []; of = [] }

-- the number of the type of a suffix
abbrev number_of : Graph → SuffixDecl → ℕ
number_of g s = unwrap_or (type_named g s.of) 0

module _ (g : Graph) (endings : Places) (are : AreOf endings (suffix_names g)) where
  abbrev found : Text → Option SuffixDecl
  found name = find (λ d. bytes_eq d.suffix name) (suffixes g)

  place_there : (name : Text) → place_of endings name ≡ position (λ (d : SuffixDecl). bytes_eq d.suffix name) (suffixes g)
  place_there name = are name ∙ position-map (λ n. bytes_eq n name) (λ (s : SuffixDecl). s.suffix) (suffixes g)

  found_there : (name : Text) → found name ≡ option_and_then (slice_get (suffixes g)) (place_of endings name)
  found_there name = find-position (λ d. bytes_eq d.suffix name) (suffixes g) ∙ ap (option_and_then (slice_get (suffixes g))) (sym (place_there name))

  first_of_both : (name : Text) (s : SuffixDecl) → found name ≡ Some s → suffix_of g name ≡ Some s
  first_of_both [] s h = h
  first_of_both (b ∷ name) s h = ap (λ o. or_later o (suffix_of g name)) h

  within : (name : Text) (place : ℕ) → place_of endings name ≡ Some place → place < length (suffixes g)
  within name place h = (position-Some (λ (d : SuffixDecl). bytes_eq d.suffix name) (suffixes g) place empty (sym (place_there name) ∙ h)).0

  -- a place lies within the table
  pub place_within : (name : Text) (place : ℕ) → place_of endings name ≡ Some place → place < length (suffix_types g)
  place_within name place h = omega (arith, within name place h, length-map (suffixes g) (number_of g))

  pub suffix_hit : (name : Text) (place : ℕ) → place_of endings name ≡ Some place → slice_index_or (suffix_types g) place 0 ≡ source_type g name
  unfolding source_type
  suffix_hit name place h =
      let s : SuffixDecl = get_or (suffixes g) place empty in
      let at : slice_get (suffixes g) place ≡ Some s = slice_get-get_or (suffixes g) place empty (within name place h) in
      let chosen : suffix_of g name ≡ Some s = first_of_both name s (found_there name ∙ ap (option_and_then (slice_get (suffixes g))) h ∙ at) in
      get_or_from_slice_get (suffix_types g) place (number_of g s) 0 (slice_get-map (number_of g) (suffixes g) place ∙ ap (option_map (number_of g)) at)
      ∙ sym (ap (λ o. unwrap_or (type_named g (suffix_type o)) 0) chosen)

  -- a name that is no suffix has the suffix of what is left without its first byte
  pub suffix_miss : (rest shorter : Text) (b : ℕ) → rest ≡ b ∷ shorter → place_of endings rest ≡ None → suffix_of g rest ≡ suffix_of g shorter
  suffix_miss rest shorter b e h =
      let none : found (b ∷ shorter) ≡ None = ap found (sym e) ∙ found_there rest ∙ ap (option_and_then (slice_get (suffixes g))) h in
      ap (suffix_of g) e ∙ ap (λ o. or_later o (suffix_of g shorter)) none

  pub no_suffix : (rest : Text) → length rest ≡ 0 → place_of endings rest ≡ None → suffix_of g rest ≡ None
  no_suffix [] e h = found_there [] ∙ ap (option_and_then (slice_get (suffixes g))) h
  no_suffix (b ∷ rest) e h = absurd (omega (arith, e))

-- names with the same suffix have the same type
pub same_suffix : (g : Graph) (a b : Text) → suffix_of g a ≡ suffix_of g b → source_type g a ≡ source_type g b
unfolding source_type
same_suffix g a b h = ap (λ o. unwrap_or (type_named g (suffix_type o)) 0) h

pub text_source : (g : Graph) (name : Text) → suffix_of g name ≡ None → source_type g name ≡ 0
unfolding source_type
text_source g name h = ap (λ o. unwrap_or (type_named g (suffix_type o)) 0) h ∙ ap (λ o. unwrap_or o 0) (position-cons (λ t. bytes_eq t.name (codes "text")) text_type (filter_map as_type g))
