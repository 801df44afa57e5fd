-- Labels as paths: those that stay below the folder in which they are followed, and the names in it that are odin's.
use Rattle.std.specs.Prelude.{◌≢◌, ℕ, Bool, false, not, ◌&&◌, ◌||◌, ◌==◌, All, List, [], ◌∷◌, codes, bytes_eq}
use Rattle.std.specs.List.{list_all, list_any, slice_split}
use Rattle.meaning_texts.specs.Classes.{is_digit}
use Rattle.meaning_texts.specs.Lists.{is_empty}

-- what stands between the slashes of a path
abbrev pub steps_of : List ℕ → List (List ℕ)
steps_of path = slice_split (λ b. b == 47) path

-- The step leads from a folder to what is right in it, and is a name that the system takes.
pub record LeadsDown (step : List ℕ) : Type 0 where
  pub some : step ≢ []
  pub other : step ≢ codes "."
  pub down : step ≢ codes ".."
  pub zero_free : All (λ b. b ≢ 0) step

-- A path that begins with a slash, or has two of them in a row or one at its end, has an empty step.
abbrev pub StaysBelow : List ℕ → Type 0
StaysBelow path = All LeadsDown (steps_of path)

-- the same, computed
abbrev pub is_dots : List ℕ → Bool
is_dots step = bytes_eq step (codes ".") || bytes_eq step (codes "..")

abbrev pub leads_down : List ℕ → Bool
leads_down step = not (is_empty step) && (not (is_dots step) && not (list_any (λ b. b == 0) step))

abbrev pub stays_below : List ℕ → Bool
stays_below path = list_all leads_down (steps_of path)

-- ---- names that are odin's

abbrev pub first_of_steps : List (List ℕ) → List ℕ
first_of_steps [] = []
first_of_steps (step ∷ steps) = step

abbrev pub first_step : List ℕ → List ℕ
first_step path = first_of_steps (steps_of path)

-- `i` and digits
abbrev pub is_part_file : List ℕ → Bool
is_part_file [] = false
is_part_file (b ∷ digits) = b == 105 && (not (is_empty digits) && list_all is_digit digits)

-- The file of the facts, that of the messages, that by which there is no outcome, those of parts, and those of outputs: what odin puts there, and what it
-- looks for afterwards.
abbrev pub is_own_name : List (List ℕ) → List ℕ → Bool
is_own_name outs name =
    bytes_eq name (codes "call")
    || bytes_eq name (codes "warnings")
    || bytes_eq name (codes "no-outcome")
    || is_part_file name
    || list_any (λ out. bytes_eq out name) outs

-- the path begins at such a file
abbrev pub is_taken : List (List ℕ) → List ℕ → Bool
is_taken outs path = is_own_name outs (first_step path)
