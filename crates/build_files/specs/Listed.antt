-- The names that are listed, and the lines that take them.
use Rattle.std.specs.Prelude.{◌↔◌, ℕ, List, ◌++◌, flat_map, Contains, codes}
use Rattle.std.specs.Ordering.{nat_cmp}
use Rattle.std.specs.Cmp.Lexicographic.{slice_cmp}
use Rattle.std.specs.List.Sorted.{IsStrictlySortedBy}
use Rattle.meaning_texts.specs.Lines.{with_lf}

-- the command that takes a file
abbrev pub take_line : List ℕ → List ℕ
take_line name = codes "take " ++ name

-- one a line
abbrev pub take_lines : List (List ℕ) → List ℕ
take_lines names = flat_map (λ name. with_lf (take_line name)) names

-- These are the names, and by their bytes each is below those after it: so each stands once.
pub record IsListed (names listed : List (List ℕ)) : Type 0 where
  pub sorted : IsStrictlySortedBy (slice_cmp nat_cmp) listed
  pub same : (name : List ℕ) → Contains listed name ↔ Contains names name
