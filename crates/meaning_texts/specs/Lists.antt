-- General words on lists: what stands in one, each item once, and items with their numbers.
use Rattle.std.specs.Prelude.{◌≡◌, ◌≢◌, ⊤, ℕ, suc, Bool, true, false, not, ◌⊎◌, List, [], ◌∷◌, filter}

-- x is one of the list
abbrev pub IsIn : {A : Type 0} → A → List A → Type 0
IsIn x [] = ⊥
IsIn x (y ∷ ys) = (x ≡ y) ⊎ IsIn x ys

-- the number stands nowhere in the list
abbrev pub HasNo : ℕ → List ℕ → Type 0
HasNo n [] = ⊤
HasNo n (m ∷ rest) = (m ≢ n) × HasNo n rest

abbrev pub is_empty : {A : Type 0} → List A → Bool
is_empty [] = true
is_empty (x ∷ rest) = false

-- each item once, where it stands first, by a test of sameness
abbrev pub once : {A : Type 0} → (A → A → Bool) → List A → List A
once same [] = []
once same (x ∷ rest) = x ∷ filter (λ y. not (same y x)) (once same rest)

-- the items with their numbers, from k on
abbrev pub numbered : {A : Type 0} → ℕ → List A → List (ℕ × A)
numbered k [] = []
numbered k (x ∷ xs) = (k, x) ∷ numbered (suc k) xs
