-- Paths that are never sources.
use Rattle.std.specs.Prelude.{ℕ, Bool, true, not, ◌&&◌, ◌||◌, ◌==◌, nat_eq, List, [], ◌∷◌, length, drop, codes, bytes_eq}
use Rattle.std.specs.List.{list_any, starts_with}
use Rattle.project_file.specs.Patterns.{steps_of}

-- the step of a folder that has no sources: git's, and that in which a build keeps what it knows
abbrev pub is_apart : List ℕ → Bool
is_apart step = bytes_eq step (codes ".git") || bytes_eq step (codes ".odin")

-- A path through such a folder; or one that begins with `odin.`, as the project's own file and what a session leaves there do.
abbrev pub is_reserved : List ℕ → Bool
is_reserved path = starts_with nat_eq path (codes "odin.") || list_any is_apart (steps_of path)

-- a step that leads up, or to nothing
abbrev pub leads_off : List ℕ → Bool
leads_off step = bytes_eq step [] || bytes_eq step (codes "..")

-- No step leads up, and none is empty, as that before a path's first `/` is.
abbrev pub leads_below : List ℕ → Bool
leads_below path = not (list_any leads_off (steps_of path))

-- nothing follows, or what lies in a folder
abbrev pub leads_in : List ℕ → Bool
leads_in [] = true
leads_in (b ∷ rest) = b == 47

-- the path, or one of a file in the folder there
abbrev pub is_within : List ℕ → List ℕ → Bool
is_within output path = starts_with nat_eq path output && leads_in (drop (length output) path)

abbrev pub is_output : List (List ℕ) → List ℕ → Bool
is_output outputs path = list_any (λ output. is_within output path) outputs

-- none of the build's own paths, and none that a target writes
abbrev pub may_be_source : List (List ℕ) → List ℕ → Bool
may_be_source outputs path = not (is_reserved path) && not (is_output outputs path)
