-- Lines that are read one by one.
use Rattle.std.proofs.Common.{◌≡◌, ◌≢◌, ℕ, List, [], ◌∷◌, Option, Some, None, refl, ap, ◌∙◌}
use Rattle.meaning_texts.specs.Lines.{cut_lines}
use Rattle.odin_bytes.specs.Words.{IsFirstLine}
use Rattle.call_layout.specs.declared.told.CallTold.{CallTold}
use Rattle.call_layout.specs.Told.{put_line, put_lines, then_lines, if_whole, read_cut, read_text}

by_line : (behind : List ℕ) → Option CallTold → Option CallTold
by_line behind told = if_whole (cut_lines behind).last (then_lines (put_lines (cut_lines behind).full) told)

pub reads_on : (told new : CallTold) (rest line behind : List ℕ) → IsFirstLine rest line behind → put_line line told ≡ Some new → read_text told rest ≡ read_text new behind
unfolding by_line
reads_on told new rest line behind is fits = ap (read_cut told) is ∙ ap (by_line behind) fits

never_whole : (last : List ℕ) → if_whole last None ≡ None
never_whole [] = refl
never_whole (b ∷ last) = refl

pub reads_no_more : (told : CallTold) (rest line behind : List ℕ) → IsFirstLine rest line behind → put_line line told ≡ None → read_text told rest ≡ None
unfolding by_line
reads_no_more told rest line behind is fits = ap (read_cut told) is ∙ ap (by_line behind) fits ∙ never_whole (cut_lines behind).last

pub reads_to_end : (told : CallTold) (rest : List ℕ) → cut_lines rest ≡ record { full = []; last = rest } → rest ≡ [] → read_text told rest ≡ Some told
reads_to_end told rest is none = ap (read_cut told) is ∙ ap (λ l. if_whole l (Some told)) none

torn : (rest : List ℕ) (told : Option CallTold) → rest ≢ [] → if_whole rest told ≡ None
torn [] told some = absurd (some refl)
torn (b ∷ rest) told some = refl

pub reads_torn : (told : CallTold) (rest : List ℕ) → cut_lines rest ≡ record { full = []; last = rest } → rest ≢ [] → read_text told rest ≡ None
reads_torn told rest is some = ap (read_cut told) is ∙ torn rest (Some told) some
