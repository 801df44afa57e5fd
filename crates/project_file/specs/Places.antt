-- Paths that a project's file may name.
use Rattle.std.specs.Prelude.{ℕ, Bool, not, ◌&&◌, ◌==◌, List, codes, bytes_eq, slice_index}
use Rattle.std.specs.List.{list_any}
use Rattle.meaning_texts.specs.Lists.{is_empty}
use Rattle.project_file.specs.Patterns.{steps_of}

-- a step to the folder above
abbrev pub climbs : List ℕ → Bool
climbs step = bytes_eq step (codes "..")

-- a step to what is in the folder
abbrev pub leads_on : List ℕ → Bool
leads_on step = not (is_empty step) && not (bytes_eq step (codes "."))

-- a byte or more, none of the root, and no step up: it stays below the project's folder, or is the folder
abbrev pub is_below : List ℕ → Bool
is_below path =
    not (is_empty path) && not (slice_index path 0 == 47) && not (list_any climbs (steps_of path))

-- and not the folder itself
abbrev pub is_file_below : List ℕ → Bool
is_file_below path = is_below path && list_any leads_on (steps_of path)
