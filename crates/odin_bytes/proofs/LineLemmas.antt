-- The lines of a list, one by one.
use Rattle.std.proofs.Common.{◌≡◌, ℕ, true, false, List, [], ◌∷◌, ◌++◌, length, map, refl, sym, ap, ◌∙◌, arith}
use Rattle.std.specs.Prelude.{nat_eq}
use Rattle.std.proofs.lemmas.Bool.{both_ways, ne_eqb}
use Rattle.meaning_texts.specs.Lines.{LineCut, cut_lines, without_cr, last_line, lines_of}
use Rattle.odin_bytes.specs.Words.{IsFirstLine}

pub no_lines : (text : List ℕ) → true ≡ nat_eq (length text) 0 → lines_of text ≡ []
unfolding lines_of
no_lines [] e = refl
no_lines (b ∷ rest) e = let f : nat_eq (length (b ∷ rest)) 0 ≡ false = ne_eqb (length (b ∷ rest)) 0 (λ n. omega arith) in absurd (both_ways (nat_eq (length (b ∷ rest)) 0) f (sym e))

pub line_first : (text line behind : List ℕ) → IsFirstLine text line behind → lines_of text ≡ without_cr line ∷ lines_of behind
unfolding lines_of
line_first text line behind is = ap (λ (c : LineCut). map without_cr (c.full ++ last_line c.last)) is

only_last : (text : List ℕ) → false ≡ nat_eq (length text) 0 → last_line text ≡ text ∷ []
only_last [] some = let n : ⊥ = cc in absurd n
only_last (b ∷ rest) some = refl

pub line_alone : (text : List ℕ) → false ≡ nat_eq (length text) 0 → cut_lines text ≡ record { full = []; last = text } → lines_of text ≡ without_cr text ∷ lines_of []
unfolding lines_of
line_alone text some is = ap (λ (c : LineCut). map without_cr (c.full ++ last_line c.last)) is ∙ ap (map without_cr) (only_last text some)
