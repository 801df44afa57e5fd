-- What an object of the outside tells of its contents, before and after a call. An object that tells nothing has `None`.
use Rattle.std.specs.Prelude.{◌≡◌, ℕ, List, ◌++◌, take, Option, Some, None}

-- these bytes and then what is left, where that is told
abbrev pub prepended : List ℕ → Option (List ℕ) → Option (List ℕ)
prepended bytes None = None
prepended bytes (Some rest) = Some (bytes ++ rest)

-- what was taken before and then these bytes, where that is told
abbrev pub appended : Option (List ℕ) → List ℕ → Option (List ℕ)
appended None bytes = None
appended (Some before) bytes = Some (before ++ bytes)

-- the first bytes of a piece, so many, were the next ones of what was left
abbrev pub AreNext : List ℕ → Option (List ℕ) → Option (List ℕ) → ℕ → Type 0
AreNext piece before after n = before ≡ prepended (take n piece) after

-- the first bytes of a piece, so many, were taken
abbrev pub AreTaken : List ℕ → Option (List ℕ) → Option (List ℕ) → ℕ → Type 0
AreTaken piece before after n = after ≡ appended before (take n piece)
