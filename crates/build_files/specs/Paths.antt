-- Paths by their steps.
use Rattle.std.specs.Prelude.{◌≢◌, ℕ, Bool, false, not, ◌&&◌, ◌==◌, All, List, [], ◌∷◌, ◌++◌, flat_map, filter, if◌then◌else◌, codes, bytes_eq}
use Rattle.std.specs.Prelude.{◌≡◌}
use Rattle.meaning_texts.specs.Lists.{HasNo, is_empty}

-- one step of a path: one byte or more, no slash, and not the folder itself
pub record IsStep (step : List ℕ) : Type 0 where
  pub some : step ≢ []
  pub slashless : HasNo 47 step
  pub other : step ≢ codes "."

-- the steps with one slash between them
abbrev pub path_of_steps : List (List ℕ) → List ℕ
path_of_steps [] = []
path_of_steps (first ∷ others) = first ++ flat_map (λ step. 47 ∷ step) others

-- and with one in front where the path begins at the root
abbrev pub path_of : Bool → List (List ℕ) → List ℕ
path_of root steps = if root then 47 ∷ path_of_steps steps else path_of_steps steps

-- The path is steps with one slash between them, so it has no `./` in front and no doubled slash. The current folder has no step.
pub record IsTidy (path : List ℕ) : Type 0 where
  pub root : Bool
  pub steps : List (List ℕ)
  pub are_steps : All IsStep steps
  pub is : path ≡ path_of root steps

-- ---- the path of any text

-- with this byte before the first piece
abbrev pub with_byte_before : ℕ → List (List ℕ) → List (List ℕ)
with_byte_before b [] = (b ∷ []) ∷ []
with_byte_before b (piece ∷ pieces) = (b ∷ piece) ∷ pieces

-- what stands between its slashes
abbrev pub pieces : List ℕ → List (List ℕ)
pieces [] = [] ∷ []
pieces (b ∷ rest) = if b == 47 then [] ∷ pieces rest else with_byte_before b (pieces rest)

-- a piece that leads on
abbrev pub leads : List ℕ → Bool
leads piece = not (is_empty piece) && not (bytes_eq piece (codes "."))

-- a slash is its first byte
abbrev pub begins_at_root : List ℕ → Bool
begins_at_root [] = false
begins_at_root (b ∷ rest) = b == 47

-- without the pieces that lead nowhere
unfoldable pub tidied : List ℕ → List ℕ
tidied text = path_of (begins_at_root text) (filter leads (pieces text))

-- ---- longer paths

-- Whatever steps the path had, it has this one after them.
abbrev pub AddsStep : List ℕ → List ℕ → List ℕ → Type 0
AddsStep old new step =
    (root : Bool) (steps : List (List ℕ)) → All IsStep steps → old ≡ path_of root steps
    → new ≡ path_of root (steps ++ step ∷ [])

-- and this one, where it leads on
abbrev pub AddsPiece : List ℕ → List ℕ → List ℕ → Type 0
AddsPiece old new piece =
    (root : Bool) (steps : List (List ℕ)) → All IsStep steps → old ≡ path_of root steps
    → new ≡ path_of root (steps ++ filter leads (piece ∷ []))
