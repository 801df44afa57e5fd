-- The files that a build may write: those of targets, the trace and the page.
use Rattle.std.specs.Prelude.{ℕ, Bool, ◌||◌, if◌then◌else◌, nat_eq, List, [], ◌∷◌, Option, Some, None, codes, bytes_eq, filter}
use Rattle.std.specs.List.{list_any, starts_with}
use Rattle.project_folder.specs.Listing.{is_plain}
use Rattle.project_folder.specs.Places.{is_reserved, is_within}
use Rattle.project_folder.specs.declared.written.Extra.{Extra}
use Rattle.project_folder.specs.declared.written.Extra.TheVariants.{Trace, Page}
use Rattle.project_folder.specs.declared.written.Taken.{Taken}
use Rattle.project_folder.specs.declared.written.Taken.TheVariants.{Reserved, Graph, Source, Target}

-- ---- what stands at a path

-- one of two paths is the other, or lies in a folder there
abbrev pub overlap : List ℕ → List ℕ → Bool
overlap one other = is_within one other || is_within other one

abbrev pub some_overlaps : List (List ℕ) → List ℕ → Bool
some_overlaps paths path = list_any (λ other. overlap other path) paths

-- Why the file at a path isn't written: it is one that a project has for the build itself, the file of its graph, a source, or another target's file.
abbrev pub taken_by : (graph : List ℕ) → (sources outputs : List (List ℕ)) → (path : List ℕ) → Option Taken
taken_by graph sources outputs path =
    if is_reserved path then Some Reserved else
    if overlap graph path then Some Graph else
    if some_overlaps sources path then Some Source else
    if some_overlaps outputs path then Some Target else None

-- the patterns that name one file alone; a target's file that another pattern fits is no source
abbrev pub named_alone : List (List ℕ) → List (List ℕ)
named_alone patterns = filter is_plain patterns

-- ---- two targets

-- the first path that another after it is too
abbrev pub double_among : List (List ℕ) → Option (List ℕ)
double_among [] = None
double_among (path ∷ rest) = if list_any (λ other. bytes_eq other path) rest then Some path else double_among rest

-- ---- the trace and the page

-- how each begins, of which a trace without a run ends there
abbrev pub front_of : Extra → List ℕ
front_of Trace = codes "[{\"dur\":"
front_of Page = codes "<!DOCTYPE html>"

abbrev pub is_bare : Extra → List ℕ → Bool
is_bare Trace text = bytes_eq text [] || bytes_eq text (codes "[]")
is_bare Page text = bytes_eq text []

-- A text that may be written over: it has nothing in it, or begins as what is to be written does.
abbrev pub begins_as : Extra → List ℕ → Bool
begins_as extra text = is_bare extra text || starts_with nat_eq text (front_of extra)
