-- What is computed of a reference list is what it says.
use Rattle.std.proofs.Common.{◌≡◌, ℕ, ◌+◌, List, [], ◌∷◌, length, Option, Some, None, refl, sym, ap, ap₂, ◌∙◌, subst, inl, inr}
use Rattle.std.specs.Prelude.{nat_lt}
use Rattle.std.proofs.lemmas.Bool.{cases_Bool, ltb-true, ltb-false, lt-ltb, le-ltb}
use Rattle.object_values.specs.declared.expressions.Expression.{Expression}
use Rattle.object_values.specs.declared.expressions.Line.{Line}
use Rattle.object_values.specs.declared.expressions.Line.TheVariants.{Bad}
use Rattle.object_values.specs.declared.expressions.Lines.{Lines}
use Rattle.meaning_texts.specs.Limits.{reference_limit}
use Rattle.meaning_texts.specs.Reading.{expression_of}
use Rattle.meaning_texts.specs.Lines.{lines_of}
use Rattle.meaning_texts.specs.References.{is_passed_over, LineReadsAs, good, bad, LinesReadAs, no_more, passed, counted, ReferenceList, these, too_many, read_line, read_lines, at_most_references, references}
use Rattle.meaning_texts.proofs.Readings.{reads, is_read, none_not_some}

-- ---- lines

line_reads : (number : ℕ) (text : List ℕ) → LineReadsAs number text (read_line number (expression_of text))
line_reads number text = by_read (expression_of text) refl
  where
    by_read : (o : Option Expression) → expression_of text ≡ o → LineReadsAs number text (read_line number o)
    by_read None e = bad (λ x t. none_not_some x (sym e ∙ reads text x t))
    by_read (Some x) e = good x (is_read text x e)

one_line : (number : ℕ) (text : List ℕ) (l : Line) → LineReadsAs number text l → l ≡ read_line number (expression_of text)
one_line number text l (good e t) = ap (read_line number) (sym (reads text e t))
one_line number text l (bad never) = by_read (expression_of text) refl
  where
    by_read : (o : Option Expression) → expression_of text ≡ o → Bad number ≡ read_line number o
    by_read None e = refl
    by_read (Some x) e = absurd (never x (is_read text x e))

lines_read : (number : ℕ) (texts : List (List ℕ)) → LinesReadAs number texts (read_lines number texts)
lines_read number [] = no_more number
lines_read number (text ∷ texts) = elim (cases_Bool (is_passed_over text)) [
  | inl e ↦ rw e (passed number text texts (read_lines (number + 1) texts) e (lines_read (number + 1) texts))
  | inr e ↦ rw e (counted number text texts (read_line number (expression_of text)) (read_lines (number + 1) texts) e (line_reads number text) (lines_read (number + 1) texts))
]

one_reading : (number : ℕ) (texts : List (List ℕ)) (lines : List Line) → LinesReadAs number texts lines → lines ≡ read_lines number texts
one_reading number texts lines (no_more m) = refl
one_reading number texts lines (passed m text rest read e r) = rw e (one_reading (m + 1) rest read r)
one_reading number texts lines (counted m text rest l read e one r) = rw e (ap₂ (λ (x : Line) xs. x ∷ xs) (one_line m text l one) (one_reading (m + 1) rest read r))

-- ---- lists

listed : (text : List ℕ) → ReferenceList text (references text)
unfolding references
listed text = elim (cases_Bool (nat_lt reference_limit (length (read_lines 1 (lines_of text))))) [
  | inl e ↦ rw e (too_many (read_lines 1 (lines_of text)) (lines_read 1 (lines_of text)) (ltb-true _ _ e))
  | inr e ↦ rw e (these (read_lines 1 (lines_of text)) (lines_read 1 (lines_of text)) (ltb-false _ _ e))
]

pub references_said : (text : List ℕ) (said : Lines) → ReferenceList text said → references text ≡ said
unfolding references
references_said text said (these lines r few) = ap at_most_references (sym (one_reading 1 (lines_of text) lines r)) ∙ (rw (le-ltb reference_limit (length lines) few) refl)
references_said text said (too_many lines r many) = ap at_most_references (sym (one_reading 1 (lines_of text) lines r)) ∙ (rw (lt-ltb reference_limit (length lines) many) refl)

pub said_references : (text : List ℕ) (said : Lines) → references text ≡ said → ReferenceList text said
said_references text said e = subst (ReferenceList text) e (listed text)
