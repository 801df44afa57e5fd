-- The row of a test.
use Rattle.std.specs.Prelude.{Bool, List, [], ◌∷◌}

-- from the rest that is there, and each longer one: what stands before it comes from the last to the first
abbrev pub row_of : {A : Type 0} → (List A → Bool) → List A → List A → List Bool
row_of test rest [] = test rest ∷ []
row_of test rest (x ∷ before) = test rest ∷ row_of test (x ∷ rest) before
