-- Worked examples of types, suffixes and chosen paths.
use Rattle.std.specs.Prelude.{◌≡◌, true, false, [], ◌∷◌, ◌++◌, Some, None, codes}
use Rattle.meaning_graph.specs.Graphs.{Graph, type_named}
use Rattle.meaning_graph.specs.Suffixes.{source_type}
use Rattle.meaning_graph.specs.Types.{is_a}
use Rattle.meaning_graph.specs.Paths.{chosen_path}
use Rattle.meaning_graph.specs.Samples.{two_ways, c_units, c_units_back, simple, suffix, tool}

-- two-ways with one more tool at its end
abbrev pub three_ways : Graph
three_ways = two_ways ++ tool (codes "t") (codes "a") (codes "d") (codes "ld") ∷ []

-- of two paths of two makers the one with the smaller numbers, and a path of one maker before both
pub record PlanOfTwoWays : Type 0 where
  pub two : chosen_path two_ways 1 4 ≡ Some (0 ∷ 3 ∷ [])
  pub shorter : chosen_path three_ways 1 4 ≡ Some (4 ∷ [])
  pub none : chosen_path two_ways 4 1 ≡ None

-- `text` is the first type, and a subtype serves as its supertype, not the other way round
pub record TypesOfUnits : Type 0 where
  pub text : type_named c_units (codes "text") ≡ Some 0
  pub last : type_named c_units (codes "objs") ≡ Some 8
  pub unknown : type_named c_units (codes "zz") ≡ None
  pub serves : is_a c_units 2 1 ≡ true
  pub not_back : is_a c_units 1 2 ≡ false
  pub itself : is_a c_units 3 3 ≡ true

-- an empty path where the type serves, and those along a list and around the program
pub record PathsOfUnits : Type 0 where
  pub empty : chosen_path c_units 2 1 ≡ Some []
  pub none : chosen_path c_units 2 6 ≡ None
  pub whole : chosen_path c_units 3 6 ≡ Some (2 ∷ 3 ∷ 4 ∷ [])
  pub around : chosen_path c_units_back 6 5 ≡ Some (5 ∷ 1 ∷ [])

-- two suffixes of which the one ends the other
abbrev pub long_suffixes : Graph
long_suffixes =
    simple (codes "c") ∷ simple (codes "test") ∷ suffix (codes ".c") (codes "c")
    ∷ suffix (codes ".t.c") (codes "test") ∷ []

-- the longest suffix that ends a name, and `text` where none does
pub record TypesOfSources : Type 0 where
  pub short : source_type long_suffixes (codes "a.c") ≡ 1
  pub long : source_type long_suffixes (codes "a.t.c") ≡ 2
  pub other : source_type long_suffixes (codes "a.d") ≡ 0
  -- a suffix may be the whole name
  pub whole : source_type long_suffixes (codes ".c") ≡ 1
