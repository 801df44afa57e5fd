-- The names to which lines lead, as a relation and computed.
use Rattle.std.specs.Prelude.{ℕ, zero, suc, Bool, cond, List, [], ◌∷◌, ◌++◌, length, bytes_eq, flat_map}
use Rattle.std.specs.List.{list_any}
use Rattle.std.specs.List.Sorted.{IsStrictlySortedBy}
use Rattle.std.specs.BTreeSet.{insert_key}
use Rattle.meaning_texts.specs.Expressions.{name_cmp}
use Rattle.meaning_texts.specs.Lists.{IsIn}
use Rattle.meaning_graph.specs.Graphs.{Text}

-- A chain of lines leads to the name: the first is one of the own lines, each further one is one of
-- the name before it.
pub data Reached (own : List Text) (lines : Text → List Text) : Text → Type 0 where
  by_own : (x : Text) → IsIn x own → Reached own lines x
  by_line : (x y : Text) → Reached own lines x → IsIn y (lines x) → Reached own lines y

-- The names are just those that are reached, sorted by bytes, each once.
pub record AreReached (own : List Text) (lines : Text → List Text)
    (names : List Text) : Type 0 where
  pub sorted : IsStrictlySortedBy name_cmp names
  pub only : (x : Text) → IsIn x names → Reached own lines x
  pub each : (x : Text) → Reached own lines x → IsIn x names

-- whether the name is one of the list
abbrev pub has_name : Text → List Text → Bool
has_name x names = list_any (bytes_eq x) names

-- sorted by bytes, each name once
abbrev pub sorted_names : List Text → List Text
sorted_names [] = []
sorted_names (x ∷ names) = insert_key name_cmp (sorted_names names) x

-- the lines of these names alone
abbrev pub lines_among : List Text → (Text → List Text) → Text → List Text
lines_among names lines x = cond (has_name x names) (lines x) []

-- the names, and those to which at most so many lines lead from them
abbrev pub reached_within : (Text → List Text) → ℕ → List Text → List Text
reached_within lines zero own = sorted_names own
reached_within lines (suc n) own = sorted_names (own ++ reached_within lines n (flat_map lines own))

-- the reached names, where the lines count of the listed names alone
unfoldable pub reached_names : List Text → List Text → (Text → List Text) → List Text
reached_names names own lines = reached_within (lines_among names lines) (length names) own
