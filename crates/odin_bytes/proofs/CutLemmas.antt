-- The cut of a text at the first place of a byte.
use Rattle.std.proofs.Common.{◌≡◌, ◌≢◌, ℕ, ◌+◌, ◌<◌, List, [], ◌∷◌, ◌++◌, length, take, drop, get_or, ap, sym, ◌∙◌, add-one}
use Rattle.std.proofs.lemmas.List.{take-append-drop}
use Rattle.std.proofs.Math.Seq.{drop-cons}
use Rattle.meaning_texts.specs.Lines.{cut_lines}
use Rattle.meaning_texts.proofs.Lemmas.{HasNo-places, HasNo-take, cut_line, cut_last}

-- a text is what stands before a place, the byte there, and what stands after it
pub cut_there : (byte : ℕ) (text : List ℕ) (at : ℕ) → at < length text → get_or text at 0 ≡ byte → text ≡ take at text ++ byte ∷ drop (at + 1) text
cut_there byte text at here there =
    sym (ap (λ b. take at text ++ b ∷ drop (at + 1) text) (sym there) ∙ rw (add-one, sym (drop-cons text at 0 here)) (take-append-drop at text))

pub cut_at_lf : (text : List ℕ) (at : ℕ) → at < length text → get_or text at 0 ≡ 10 → ((k : ℕ) → k < at → k < length text → get_or text k 0 ≢ 10)
    → cut_lines text ≡ record { full = take at text ∷ (cut_lines (drop (at + 1) text)).full; last = (cut_lines (drop (at + 1) text)).last }
cut_at_lf text at here lf before =
    ap cut_lines (cut_there 10 text at here lf) ∙ cut_line (take at text) (drop (at + 1) text) (HasNo-take 10 text at before)

pub cut_nowhere : (text : List ℕ) → ((k : ℕ) → k < length text → get_or text k 0 ≢ 10) → cut_lines text ≡ record { full = []; last = text }
cut_nowhere text none = cut_last text (HasNo-places 10 text none)
