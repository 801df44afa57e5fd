-- What a closure was told, the names to which that leads, and which of them is told next.
use Rattle.std.specs.Prelude.{◌≡◌, ◌⊎◌, cond, List, [], ◌∷◌, ◌++◌, length, map, flat_map, Option, Some, None, slice_get, bytes_eq}
use Rattle.std.specs.List.{fold}
use Rattle.meaning_texts.specs.Lists.{IsIn}
use Rattle.meaning_graph.specs.Graphs.{Text}
use Rattle.meaning_tasks.specs.Reached.{Reached, has_name}

-- Names with the lines that were told of them, in the order of the telling.
abbrev pub ToldLines : Type 0
ToldLines = List (Text × List Text)

-- What a closure was told: of its root first, and then of names to which lines lead.
pub record ClosureView : Type 0 where
  pub root : Text
  pub told : ToldLines

-- ---- the lines of a name

-- the lines that were told of the name, none where it wasn't told
abbrev pub lines_told : ToldLines → Text → List Text
lines_told [] x = []
lines_told (entry ∷ told) x = cond (bytes_eq x entry.0) entry.1 (lines_told told x)

abbrev pub lines_of : ClosureView → Text → List Text
lines_of c x = lines_told c.told x

-- all lines that were told, in order
abbrev pub all_lines : ToldLines → List Text
all_lines told = flat_map (λ entry. entry.1) told

-- the names that were told
abbrev pub told_names : ToldLines → List Text
told_names told = map (λ entry. entry.0) told

-- ---- what is reached and wanted

-- What was told leads to the name. The lines of the root are the own ones.
abbrev pub IsReached : ClosureView → Text → Type 0
IsReached c x = Reached (lines_of c c.root) (lines_of c) x

-- The name is the root or reached.
abbrev pub NameIsFound : ClosureView → Text → Type 0
NameIsFound c x = (x ≡ c.root) ⊎ IsReached c x

-- The name is the root or reached, and wasn't told.
pub record IsWanted (c : ClosureView) (x : Text) : Type 0 where
  pub found : NameIsFound c x
  pub untold : IsIn x (told_names c.told) → ⊥

-- The root and each reached name was told.
abbrev pub AllTold : ClosureView → Type 0
AllTold c = (x : Text) → NameIsFound c x → IsIn x (told_names c.told)

-- ---- the order of the telling

-- the names, with the name after them where it is new
abbrev pub with_name : List Text → Text → List Text
with_name names x = cond (has_name x names) names (names ++ x ∷ [])

abbrev pub with_names : List Text → List Text → List Text
with_names names more = fold with_name names more

-- the root and the names of all lines that were told, each where it first came
abbrev pub found_names : ClosureView → List Text
found_names c = with_names (c.root ∷ []) (all_lines c.told)

-- the name that is told next: the first found one that wasn't told
abbrev pub wanted_name : ClosureView → Option Text
wanted_name c = slice_get (found_names c) (length c.told)

abbrev pub with_told : Option Text → ClosureView → List Text → ClosureView
with_told None c lines = c
with_told (Some x) c lines = record { root = c.root; told = c.told ++ (x, lines) ∷ [] }

-- what is told once the wanted name has these lines
abbrev pub with_lines : ClosureView → List Text → ClosureView
with_lines c lines = with_told (wanted_name c) c lines
