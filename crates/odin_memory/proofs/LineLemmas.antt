-- The lines of a text, one by one.
use Rattle.std.proofs.Common.{◌≡◌, ℕ, List, [], ◌∷◌, length, refl, ap, ◌∙◌}
use Rattle.std.proofs.lemmas.Bool.{eqb-true}
use Rattle.std.proofs.lemmas.List.{nil_from_length}
use Rattle.std.specs.Prelude.{true, false, ◌==◌}
use Rattle.meaning_texts.specs.Lines.{cut_lines}
use Rattle.odin_memory.specs.Inputs.{lines}

no_lines : lines [] ≡ []
unfolding lines
no_lines = refl

pub none_at_the_end : (text : List ℕ) → (length text == 0) ≡ true → lines text ≡ []
none_at_the_end text none = ap lines (nil_from_length text (eqb-true (length text) 0 none)) ∙ no_lines

pub lines_more : (text line rest : List ℕ) → cut_lines text ≡ record { full = line ∷ (cut_lines rest).full; last = (cut_lines rest).last } → lines text ≡ line ∷ lines rest
unfolding lines
lines_more text line rest cut = rw cut refl

-- a text without an LF is its one line, if it has a byte
pub last_one : (text rest : List ℕ) → (length text == 0) ≡ false → cut_lines text ≡ record { full = []; last = text } → rest ≡ [] → lines text ≡ text ∷ lines rest
unfolding lines
last_one [] rest some cut none = cc
last_one (b ∷ text) rest some cut none = rw (cut, none) refl
