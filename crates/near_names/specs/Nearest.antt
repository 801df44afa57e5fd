-- Which of some names is the nearest to a word.
use Rattle.std.specs.Prelude.{◌≡◌, ℕ, ◌/◌, ◌≤◌, Bool, true, false, ◌&&◌, nat_le, nat_lt, List, length, take, Option, Some, None, find, if◌then◌else◌}
use Rattle.std.specs.List.{All, list_any}
use Rattle.std.specs.Str.{chars}
use Rattle.strsim.specs.Edits.{osa_table}

-- how many edits lead from one text to the other: a character put in, taken out or changed, or two neighbours that change places
abbrev pub distance : List ℕ → List ℕ → ℕ
distance word name = (osa_table (chars word) (chars name)).last_row (length (chars name))

-- both have at most 255 bytes, and no more edits lead from one to the other than a third of the word's bytes
abbrev pub is_near : List ℕ → List ℕ → Bool
is_near word name =
    nat_le (length word) 255 && nat_le (length name) 255 && nat_le (distance word name) (length word / 3)

-- the distance of a name that is near
abbrev pub reach : List ℕ → List ℕ → Option ℕ
reach word name = if is_near word name then Some (distance word name) else None

-- a name that is near, and no farther than this one
abbrev pub is_as_near : List ℕ → List ℕ → List ℕ → Bool
is_as_near word found name = is_near word name && nat_le (distance word name) (distance word found)

-- Of the names none that is near is nearer, and it is the first that is as near.
pub record IsNearest (word : List ℕ) (names : List (List ℕ)) (found : List ℕ) : Type 0 where
  pub near : is_near word found ≡ true
  pub least : All (λ name. is_near word name ≡ true → distance word found ≤ distance word name) names
  pub first : find (is_as_near word found) names ≡ Some found

-- the nearest of them, or that none is near
abbrev pub IsAnswerAmong : List ℕ → List (List ℕ) → Option (List ℕ) → Type 0
IsAnswerAmong word names None = list_any (is_near word) names ≡ false
IsAnswerAmong word names (Some found) = IsNearest word names found

-- ---- what is found so far

-- nearer than what was found before
abbrev pub is_nearer : ℕ → Option (List ℕ × ℕ) → Bool
is_nearer away None = true
is_nearer away (Some before) = nat_lt away before.1

-- a name and its distance
abbrev pub IsSoFar : List ℕ → List (List ℕ) → Option (List ℕ × ℕ) → Type 0
IsSoFar word seen None = IsAnswerAmong word seen None
IsSoFar word seen (Some near) = (near.1 ≡ distance word near.0) × IsNearest word seen near.0

-- ---- the answer

-- Of many names the first 1,000 are looked at.
abbrev pub IsAnswer : List ℕ → List (List ℕ) → Option (List ℕ) → Type 0
IsAnswer word names found = IsAnswerAmong word (take 1000 names) found
