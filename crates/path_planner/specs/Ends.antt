-- The types of makers by their numbers.
use Rattle.std.specs.Prelude.{◌≡◌, ◌<◌, ℕ, zero, suc, Bool, false, List, [], ◌∷◌, ◌++◌, Option, Some, None, cond, length, map, option_map, option_and_then}
use Rattle.object_values.specs.declared.graph.MakerDecl.{MakerDecl}
use Rattle.meaning_graph.specs.Graphs.{Graph, types, makers, type_named}
use Rattle.meaning_graph.specs.Types.{is_a}
use Rattle.meaning_graph.specs.Paths.{Chosen, HasNoPath, chosen_path}
use Rattle.path_planner.specs.declared.route.Ends.{Ends}

-- the ends of a maker that takes the one type and makes the other
abbrev pub from_to : ℕ → ℕ → Ends
from_to from to = record { from = Some from; to = Some to }

-- the numbers of the types that a maker takes and makes
abbrev pub ends_of : Graph → MakerDecl → Ends
ends_of g m = record { from = type_named g m.from; to = type_named g m.to }

abbrev pub ends_in : Graph → List Ends
ends_in g = map (ends_of g) (makers g)

-- what a maker with these ends makes of the type a, where it takes it
abbrev pub made_by : Graph → ℕ → Ends → Option ℕ
made_by g a e = option_and_then (λ taken. cond (is_a g a taken) e.to None) e.from

-- how many makers the chosen path has, where there is one
abbrev pub distance : Graph → ℕ → ℕ → Option ℕ
distance g from to = option_map length (chosen_path g from to)

-- the distances to a type of so many types, from one on
abbrev pub near_from : Graph → ℕ → ℕ → ℕ → List (Option ℕ)
near_from g to from zero = []
near_from g to from (suc count) = distance g from to ∷ near_from g to (suc from) count

-- so many rows, by their numbers
abbrev pub rows_of : {A : Type 0} → (ℕ → A) → ℕ → List A
rows_of row zero = []
rows_of row (suc count) = rows_of row count ++ row count ∷ []

-- the distances of all types to each of so many types
abbrev pub nears_to : Graph → ℕ → List (List (Option ℕ))
nears_to g count = rows_of (λ to. near_from g to 0 (length (types g))) count

abbrev pub nears_of : Graph → List (List (Option ℕ))
nears_of g = nears_to g (length (types g))

-- whether a maker of these types takes the type a
abbrev pub takes : Graph → ℕ → Option ℕ → Bool
takes g a None = false
takes g a (Some from) = is_a g a from

-- the numbers of the makers that take a type, from one on
abbrev pub takers_from : Graph → ℕ → List Ends → ℕ → List ℕ
takers_from g a [] number = []
takers_from g a (e ∷ es) number = cond (takes g a e.from) (number ∷ takers_from g a es (suc number)) (takers_from g a es (suc number))

-- the makers that take a type
abbrev pub takers_of : Graph → ℕ → List ℕ
takers_of g a = takers_from g a (ends_in g) 0

-- the makers that take each type
abbrev pub takers_in : Graph → List (List ℕ)
takers_in g = rows_of (takers_of g) (length (types g))

-- the ends of makers, the makers that take each type, and the distances to each
abbrev pub Planned : Type 0
Planned = List Ends × List (List ℕ) × List (List (Option ℕ))

-- what plans that are made of the graph hold
abbrev pub plans_of : Graph → Planned
plans_of g = (ends_in g, takers_in g, nears_of g)

-- the chosen path from the one type to the other, or that there is none
abbrev pub IsChosen : Graph → ℕ → ℕ → Option (List ℕ) → Type 0
IsChosen g from to None = HasNoPath g from to
IsChosen g from to (Some path) = Chosen g from to path

-- The numbers of a maker are those of types.
pub record AreTypes (g : Graph) (e : Ends) : Type 0 where
  pub from_is : (from : ℕ) → e.from ≡ Some from → from < length (types g)
  pub to_is : (to : ℕ) → e.to ≡ Some to → to < length (types g)
