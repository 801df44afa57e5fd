-- Files by their names.
use Rattle.std.specs.Prelude.{◌≡◌, ⊤, ℕ, List, Option, Some, None, take}
use Rattle.std.specs.Option.{option_map}
use Rattle.std.specs.Ordering.{nat_cmp}
use Rattle.std.specs.Cmp.Lexicographic.{slice_cmp}
use Rattle.std.specs.FinMap.{FinMap, get}

-- bodies by names
abbrev pub Files : Type 0
Files = FinMap (slice_cmp nat_cmp) (List ℕ)

-- how many bytes of a file are given at most
abbrev pub given_file_limit : ℕ
given_file_limit = 16777217

-- what these files give under a name: the first bytes of that file, or nothing where there is none
abbrev pub given_of : Files → List ℕ → Option (List ℕ)
given_of files name = option_map (λ body. take given_file_limit body) (get files name)

-- the answer is that of the files, where they are told
abbrev pub IsGiven : Option Files → List ℕ → Option (List ℕ) → Type 0
IsGiven None name answer = ⊤
IsGiven (Some files) name answer = answer ≡ given_of files name
