-- A type that its supertypes lead back to, by names and by numbers.
use Rattle.std.proofs.Common.{◌≡◌, ◌||◌, ◌<◌, ℕ, Bool, false, List, [], ◌∷◌, refl, sym, ap, ◌∙◌, length}
use Rattle.std.specs.Prelude.{Option, Some, None, filter_map}
use Rattle.std.specs.List.{list_any, cons_option}
use Rattle.meaning_texts.specs.Lists.{IsIn}
use Rattle.meaning_graph.specs.Graphs.{Text, Graph, types, type_named}
use Rattle.meaning_graph.specs.Types.{is_a}
use Rattle.meaning_texts.proofs.Lemmas.{from_chosen}
use Rattle.meaning_graph.specs.Checks.{both_known, is_a_named}
use Rattle.type_graph.proofs.ContextLemmas.{number_within}

module _ (g : Graph) where
  -- the numbers of names are those of types
  pub numbers_within : (names : List Text) (number : ℕ) → IsIn number (filter_map (type_named g) names) → number < length (types g)
  numbers_within names number h = let r = from_chosen (type_named g) number names h in number_within g r.0 number r.2

  one_named : (number : ℕ) (super : Option ℕ) (numbers : List ℕ) (rest : Bool) → list_any (λ s. is_a g s number) numbers ≡ rest → list_any (λ s. is_a g s number) (cons_option super numbers) ≡ both_known (is_a g) super (Some number) || rest
  one_named number None numbers rest e = e
  one_named number (Some a) numbers rest e = ap (λ b. is_a g a number || b) e

  by_numbers : (number : ℕ) (supers : List Text) → list_any (λ s. is_a g s number) (filter_map (type_named g) supers) ≡ list_any (λ super. both_known (is_a g) (type_named g super) (Some number)) supers
  by_numbers number [] = refl
  by_numbers number (x ∷ xs) = one_named number (type_named g x) (filter_map (type_named g) xs) (list_any (λ super. both_known (is_a g) (type_named g super) (Some number)) xs) (by_numbers number xs)

  pub loop_named : (name : Text) (number : ℕ) (supers : List Text) → type_named g name ≡ Some number → list_any (λ s. is_a g s number) (filter_map (type_named g) supers) ≡ list_any (λ super. is_a_named g super name) supers
  loop_named name number supers h = by_numbers number supers ∙ ap (λ o. list_any (λ super. both_known (is_a g) (type_named g super) o) supers) (sym h)

  not_both : (a : Option ℕ) → both_known (is_a g) a None ≡ false
  not_both None = refl
  not_both (Some n) = refl

  none_named : (supers : List Text) → false ≡ list_any (λ super. both_known (is_a g) (type_named g super) None) supers
  none_named [] = refl
  none_named (x ∷ xs) = none_named xs ∙ ap (λ b. b || list_any (λ super. both_known (is_a g) (type_named g super) None) xs) (sym (not_both (type_named g x)))

  -- a name that means no type is in no loop
  pub no_loop : (name : Text) (supers : List Text) → type_named g name ≡ None → false ≡ list_any (λ super. is_a_named g super name) supers
  no_loop name supers h = none_named supers ∙ ap (λ o. list_any (λ super. both_known (is_a g) (type_named g super) o) supers) (sym h)
