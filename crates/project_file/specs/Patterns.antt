-- Patterns of paths, and the paths that they fit.
use Rattle.std.specs.Prelude.{ℕ, Bool, false, ◌&&◌, ◌||◌, ◌==◌, List, [], ◌∷◌, codes, bytes_eq, if◌then◌else◌}
use Rattle.std.specs.List.{slice_split}
use Rattle.meaning_texts.specs.Lists.{is_empty}

-- what stands between the slashes
abbrev pub steps_of : List ℕ → List (List ℕ)
steps_of path = slice_split (λ b. b == 47) path

-- ---- what fits

-- the test passes what is left after some first ones, or after none
abbrev pub some_tail : {A : Type 0} → (List A → Bool) → List A → Bool
some_tail test [] = test []
some_tail test (x ∷ rest) = test (x ∷ rest) || some_tail test rest

-- one test passes the first, and the other what comes after it
abbrev pub first_then : {A : Type 0} → (A → Bool) → (List A → Bool) → List A → Bool
first_then first others [] = false
first_then first others (x ∷ rest) = first x && others rest

-- In a step a `*` stands for any bytes, also for none.
abbrev pub step_fits : List ℕ → List ℕ → Bool
step_fits [] name = is_empty name
step_fits (b ∷ rest) name =
    if b == 42 then some_tail (step_fits rest) name else first_then (λ c. c == b) (step_fits rest) name

-- A step `**` stands for any steps, also for none.
abbrev pub steps_fit : List (List ℕ) → List (List ℕ) → Bool
steps_fit [] names = is_empty names
steps_fit (step ∷ rest) names =
    if bytes_eq step (codes "**") then some_tail (steps_fit rest) names
    else first_then (step_fits step) (steps_fit rest) names

abbrev pub fits : List ℕ → List ℕ → Bool
fits pattern path = steps_fit (steps_of pattern) (steps_of path)
