-- What the laws of closures say.
use Rattle.std.specs.Prelude.{◌≡◌, ◌↔◌, cond, List, [], Some, bytes_eq}
use Rattle.meaning_texts.specs.Lists.{IsIn}
use Rattle.meaning_graph.specs.Graphs.{Text}
use Rattle.meaning_tasks.specs.Reached.{AreReached}
use Rattle.dynamic_inputs.specs.Closures.{ClosureView, lines_of, AllTold, wanted_name, with_lines}

-- the own lines at the root, and elsewhere those of the function
abbrev pub with_own : Text → List Text → (Text → List Text) → Text → List Text
with_own root own lines x = cond (bytes_eq x root) own (lines x)

-- The root was told the own lines, and each other name those of the function.
abbrev pub IsToldBy : List Text → (Text → List Text) → ClosureView → Type 0
IsToldBy own lines c =
    (x : Text) (told : List Text) → IsIn (x, told) c.told → told ≡ with_own c.root own lines x

-- A root that lines reach again is followed by its own lines already: as a name it may have these,
-- some of them or none.
abbrev pub RootAgain : Type 0
RootAgain =
    (root : Text) (own : List Text) (lines : Text → List Text) (names : List Text)
    → ((x : Text) → IsIn x (lines root) → IsIn x own)
    → AreReached own lines names ↔ AreReached own (with_own root own lines) names

-- Once all is told, what was told leads to the names to which the own lines and the function lead,
-- in whatever order it was told.
abbrev pub AllToldIsReached : Type 0
AllToldIsReached =
    (c : ClosureView) (own : List Text) (lines : Text → List Text) (names : List Text)
    → IsToldBy own lines c → AllTold c → ((x : Text) → IsIn x (lines c.root) → IsIn x own)
    → AreReached (lines_of c c.root) (lines_of c) names → AreReached own lines names

-- At first nothing is told, and to the wanted name its lines are told next.
pub record ToldInTurn (own : List Text) (lines : Text → List Text) : Type 0 where
  pub first : (root : Text) → IsToldBy own lines (record { root = root; told = [] })
  pub next : (c : ClosureView) (x : Text) → IsToldBy own lines c → wanted_name c ≡ Some x
      → IsToldBy own lines (with_lines c (with_own c.root own lines x))

abbrev pub EachIsToldInTurn : Type 0
EachIsToldInTurn = (own : List Text) (lines : Text → List Text) → ToldInTurn own lines
