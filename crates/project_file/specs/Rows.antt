-- Rows: whether each rest of a text passes a test, from the empty rest to the whole text.
use Rattle.std.specs.Prelude.{ℕ, zero, suc, Bool, true, false, ◌&&◌, ◌||◌, List, [], ◌∷◌}

-- so many that don't pass
abbrev pub falses : ℕ → List Bool
falses zero = []
falses (suc n) = false ∷ falses n

-- the empty rest alone
abbrev pub first_row : ℕ → List Bool
first_row n = true ∷ falses n

-- whether one passed until here
abbrev pub any_so_far : Bool → List Bool → List Bool
any_so_far any [] = []
any_so_far any (passes ∷ row) = (passes || any) ∷ any_so_far (passes || any) row

-- one more in front of each rest, where it passes a test of its own; none stands in front of the empty one
abbrev pub pairs_pass : {A : Type 0} → (A → Bool) → List A → List Bool → List Bool
pairs_pass test [] row = []
pairs_pass test (x ∷ items) [] = []
pairs_pass test (x ∷ items) (passes ∷ row) = (test x && passes) ∷ pairs_pass test items row

abbrev pub moved_on : {A : Type 0} → (A → Bool) → List A → List Bool → List Bool
moved_on test items row = false ∷ pairs_pass test items row
