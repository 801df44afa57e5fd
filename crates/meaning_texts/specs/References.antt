-- Reference lists and scan outputs: what their lines say.
use Rattle.std.specs.Prelude.{◌≡◌, ℕ, ◌+◌, ◌<◌, ◌≤◌, Bool, true, false, nat_lt, ◌==◌, List, [], ◌∷◌, length, filter, Option, Some, None, if◌then◌else◌}
use Rattle.object_values.specs.declared.expressions.Expression.{Expression}
use Rattle.object_values.specs.declared.expressions.Line.{Line}
use Rattle.object_values.specs.declared.expressions.Line.TheVariants.{Good, Bad}
use Rattle.object_values.specs.declared.expressions.Lines.{Lines}
use Rattle.object_values.specs.declared.expressions.Lines.TheVariants.{These, TooMany}
use Rattle.meaning_texts.specs.Limits.{reference_limit}
use Rattle.meaning_texts.specs.Expressions.{ExpressionText}
use Rattle.meaning_texts.specs.Tests.{is_name}
use Rattle.meaning_texts.specs.Reading.{expression_of}
use Rattle.meaning_texts.specs.Lines.{lines_of}

-- an empty line, or one that begins with `#`
abbrev pub is_passed_over : List ℕ → Bool
is_passed_over [] = true
is_passed_over (b ∷ rest) = b == 35

-- ---- as a relation

-- The line is an expression, or it is bad.
pub data LineReadsAs (number : ℕ) (text : List ℕ) : Line → Type 0 where
  good : (e : Expression) → ExpressionText text e → LineReadsAs number text (Good number e)
  bad : ((e : Expression) → ExpressionText text e → ⊥) → LineReadsAs number text (Bad number)

-- The lines that aren't passed over read so, one for one and in order; all are numbered, from this
-- number on.
pub data LinesReadAs : ℕ → List (List ℕ) → List Line → Type 0 where
  no_more : (number : ℕ) → LinesReadAs number [] []
  passed : (number : ℕ) (text : List ℕ) (texts : List (List ℕ)) (lines : List Line)
      → is_passed_over text ≡ true → LinesReadAs (number + 1) texts lines
      → LinesReadAs number (text ∷ texts) lines
  counted : (number : ℕ) (text : List ℕ) (texts : List (List ℕ)) (line : Line) (lines : List Line)
      → is_passed_over text ≡ false → LineReadsAs number text line → LinesReadAs (number + 1) texts lines
      → LinesReadAs number (text ∷ texts) (line ∷ lines)

-- What a reference list says: its lines, unless there are too many.
pub data ReferenceList (text : List ℕ) : Lines → Type 0 where
  these : (lines : List Line) → LinesReadAs 1 (lines_of text) lines → length lines ≤ reference_limit
      → ReferenceList text (These lines)
  too_many : (lines : List Line) → LinesReadAs 1 (lines_of text) lines → reference_limit < length lines
      → ReferenceList text TooMany

-- ---- computed

abbrev pub read_line : ℕ → Option Expression → Line
read_line number None = Bad number
read_line number (Some e) = Good number e

-- the lines that aren't passed over, numbered from the number on
abbrev pub read_lines : ℕ → List (List ℕ) → List Line
read_lines number [] = []
read_lines number (text ∷ rest) =
    if is_passed_over text then read_lines (number + 1) rest
    else read_line number (expression_of text) ∷ read_lines (number + 1) rest

abbrev pub at_most_references : List Line → Lines
at_most_references found = if nat_lt reference_limit (length found) then TooMany else These found

-- the lines of a reference list
unfoldable pub references : List ℕ → Lines
references text = at_most_references (read_lines 1 (lines_of text))

-- ---- scan outputs

-- the lines that are names, in order
unfoldable pub scanned_names : List ℕ → List (List ℕ)
scanned_names text = filter is_name (lines_of text)
