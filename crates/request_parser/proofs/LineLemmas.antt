-- The lines of a reference list, one by one.
use Rattle.std.proofs.Common.{◌≡◌, ℕ, ◌+◌, ◌≤◌, false, List, [], ◌∷◌, ◌++◌, length, refl, sym, ap, ◌∙◌, inl, inr, arith, append-nil, length-append}
use Rattle.std.proofs.lemmas.Bool.{le-ltb, lt-ltb}
use Rattle.object_values.specs.declared.expressions.Expression.{Expression}
use Rattle.object_values.specs.declared.expressions.Line.{Line}
use Rattle.object_values.specs.declared.expressions.Line.TheVariants.{Good, Bad}
use Rattle.object_values.specs.declared.expressions.Lines.TheVariants.{These, TooMany}
use Rattle.meaning_texts.specs.Limits.{reference_limit}
use Rattle.meaning_texts.specs.Expressions.{ExpressionText, IsFaultPlace}
use Rattle.meaning_texts.specs.Reading.{expression_of}
use Rattle.meaning_texts.specs.Lines.{lines_of}
use Rattle.meaning_texts.specs.References.{is_passed_over, ReferenceList, read_line, read_lines, at_most_references, references}
use Rattle.meaning_texts.proofs.Lemmas.{some_or_none, reads, is_read, no_expression, said_references}

-- ---- one line

pub good_line : (number : ℕ) (text : List ℕ) (e : Expression) → ExpressionText text e → Good number e ≡ read_line number (expression_of text)
good_line number text e t = ap (read_line number) (sym (reads text e t))

pub bad_line : (number : ℕ) (text : List ℕ) (place : ℕ) → IsFaultPlace text place → Bad number ≡ read_line number (expression_of text)
bad_line number text place f = elim (some_or_none (expression_of text)) [
  | inl s ↦ absurd (no_expression text place s.0 f (is_read text s.0 s.1))
  | inr n ↦ ap (read_line number) (sym n)
]

-- ---- the list

pub all_lines : (text : List ℕ) (lines : List Line) (number : ℕ) (rest : List ℕ) → read_lines 1 (lines_of text) ≡ lines ++ read_lines number (lines_of rest) → lines_of rest ≡ [] → length lines ≤ reference_limit → ReferenceList text (These lines)
unfolding references
all_lines text lines number rest said none few =
    let all : read_lines 1 (lines_of text) ≡ lines = said ∙ ap (λ ls. lines ++ read_lines number ls) none ∙ append-nil lines in
    said_references text (These lines) (ap at_most_references all ∙ (rw (le-ltb reference_limit (length lines) few) refl))

pub one_too_many : (text : List ℕ) (lines : List Line) (number : ℕ) (rest line behind : List ℕ) → read_lines 1 (lines_of text) ≡ lines ++ read_lines number (lines_of rest) → lines_of rest ≡ line ∷ lines_of behind → is_passed_over line ≡ false → length lines ≡ reference_limit → ReferenceList text TooMany
unfolding references
one_too_many text lines number rest line behind said first counted full =
    let found : List Line = read_line number (expression_of line) ∷ read_lines (number + 1) (lines_of behind) in
    let there : read_lines number (lines_of rest) ≡ found = ap (read_lines number) first ∙ (rw counted refl) in
    let all : read_lines 1 (lines_of text) ≡ lines ++ found = said ∙ ap (λ ls. lines ++ ls) there in
    let l : length (lines ++ found) ≡ length lines + length found = length-append lines found in
    said_references text TooMany (ap at_most_references all ∙ (rw (lt-ltb reference_limit (length (lines ++ found)) (omega arith)) refl))
