-- Names with the places where they first stand.
use Rattle.std.specs.Prelude.{◌≡◌, ℕ, Bool, List, [], ◌∷◌, ◌++◌, Option, Some, None, cond, bytes_eq, position, is_some, take}
use Rattle.std.specs.List.{list_any}
use Rattle.meaning_graph.specs.Graphs.{Text}

abbrev pub Places : Type 0
Places = List (Text × ℕ)

-- the place of a name, where it has one
abbrev pub place_of : Places → Text → Option ℕ
place_of [] name = None
place_of (pair ∷ pairs) name = cond (bytes_eq name pair.0) (Some pair.1) (place_of pairs name)

-- a name that has no place yet is given this one
abbrev pub with_place : Places → Text → ℕ → Places
with_place pairs name place = cond (is_some (place_of pairs name)) pairs (pairs ++ (name, place) ∷ [])

-- each name has the place where it first stands in the list
abbrev pub AreOf : Places → List Text → Type 0
AreOf pairs names = (name : Text) → place_of pairs name ≡ position (λ n. bytes_eq n name) names

-- the name is one of these
abbrev pub stands_in : Text → List Text → Bool
stands_in name names = list_any (λ n. bytes_eq n name) names

-- the answer says whether the name is one of the first so many names, whatever list the places are of
abbrev pub StandsBefore : Places → Text → ℕ → Bool → Type 0
StandsBefore places name count answer = (names : List Text) → AreOf places names → answer ≡ stands_in name (take count names)
