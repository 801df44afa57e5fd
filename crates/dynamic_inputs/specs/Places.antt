-- How a closure is kept: names, and lines as places of names.
use Rattle.std.specs.Prelude.{◌≡◌, ◌⊎◌, ⊤, ℕ, ◌<◌, ◌≤◌, ◌==◌, Bool, List, [], ◌∷◌, ◌++◌, length, map, get_or, slice_get, Some}
use Rattle.std.specs.List.{AllByRecursion}
use Rattle.meaning_texts.specs.Lists.{IsIn}
use Rattle.meaning_graph.specs.Graphs.{Text}
use Rattle.dynamic_inputs.specs.Closures.{ToldLines, ClosureView, all_lines, IsReached, found_names, with_names}

abbrev pub name_at : List Text → ℕ → Text
name_at names place = get_or names place []

-- the first place
abbrev pub is_first : ℕ → Bool
is_first place = place == 0

-- the names with the lines at these places among all names, one for one
abbrev pub told_by : List Text → List Text → List (List ℕ) → ToldLines
told_by all names [] = []
told_by all [] (places ∷ told) = []
told_by all (x ∷ names) (places ∷ told) = (x, map (name_at all) places) ∷ told_by all names told

-- what was told where so many first names have lines
abbrev pub closure_view : Text → List Text → List (List ℕ) → ClosureView
closure_view root names told = record { root = root; told = told_by names names told }

-- The lines stand at these places, one for one.
abbrev pub ArePlaces : List Text → List Text → List ℕ → Type 0
ArePlaces names [] [] = ⊤
ArePlaces names [] (place ∷ places) = ⊥
ArePlaces names (line ∷ lines) [] = ⊥
ArePlaces names (line ∷ lines) (place ∷ places) =
    (slice_get names place ≡ Some line) × ArePlaces names lines places

-- The next name is told the lines, whose names are added.
pub record TellsLines (names : List Text) (told : List (List ℕ)) (lines more : List Text)
    (after : List (List ℕ)) : Type 0 where
  pub added : more ≡ with_names names lines
  pub places : List ℕ
  pub at : ArePlaces more lines places
  pub pushed : after ≡ told ++ places ∷ []

-- The names are the found ones, in their order, and lines lead to each but the root.
pub record IsFollowed (root : Text) (names : List Text) (told : List (List ℕ)) : Type 0 where
  pub few : length told ≤ length names
  pub within : AllByRecursion (AllByRecursion (λ place. place < length names)) told
  pub all : names ≡ found_names (closure_view root names told)
  pub led : (x : Text) → IsIn x (all_lines (told_by names names told))
      → IsReached (closure_view root names told) x

-- Nothing is kept before something is told.
abbrev pub IsEmptyOrFollowed : Text → List Text → List (List ℕ) → Type 0
IsEmptyOrFollowed root names told = ((names ≡ []) × (told ≡ [])) ⊎ IsFollowed root names told
