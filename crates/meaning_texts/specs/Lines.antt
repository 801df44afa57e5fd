-- Texts by lines.
use Rattle.std.specs.Prelude.{◌≡◌, ℕ, ◌==◌, List, [], ◌∷◌, ◌++◌, map, if◌then◌else◌}
use Rattle.std.specs.List.{flat_map, All}
use Rattle.meaning_texts.specs.Lists.{HasNo}

-- ---- the cut at LF

abbrev pub HasNoLf : List ℕ → Type 0
HasNoLf = HasNo 10

abbrev pub with_lf : List ℕ → List ℕ
with_lf line = line ++ 10 ∷ []

-- The text is these full lines, each with its LF, and what stands after the last LF.
pub record AreLines (text : List ℕ) (full : List (List ℕ)) (last : List ℕ) : Type 0 where
  pub is : text ≡ flat_map with_lf full ++ last
  pub full_lines : All HasNoLf full
  pub last_piece : HasNoLf last

-- the full lines and the last piece of a text, computed
pub record LineCut : Type 0 where
  pub full : List (List ℕ)
  pub last : List ℕ

abbrev pub put_byte : ℕ → List (List ℕ) → List ℕ → LineCut
put_byte b [] last = record { full = []; last = b ∷ last }
put_byte b (line ∷ full) last = record { full = (b ∷ line) ∷ full; last = last }

abbrev pub cut_byte : ℕ → LineCut → LineCut
cut_byte b rest =
    if b == 10 then record { full = [] ∷ rest.full; last = rest.last }
    else put_byte b rest.full rest.last

abbrev pub cut_lines : List ℕ → LineCut
cut_lines [] = record { full = []; last = [] }
cut_lines (b ∷ rest) = cut_byte b (cut_lines rest)

-- ---- the two cutters

-- a line without one CR at its end
abbrev pub without_cr : List ℕ → List ℕ
without_cr [] = []
without_cr (b ∷ []) = if b == 13 then [] else b ∷ []
without_cr (b ∷ c ∷ rest) = b ∷ without_cr (c ∷ rest)

-- the last piece is a line where it has a byte
abbrev pub last_line : List ℕ → List (List ℕ)
last_line [] = []
last_line (b ∷ rest) = (b ∷ rest) ∷ []

-- the lines of a reference list and of a scan output: a CR at the end of a line is dropped
unfoldable pub lines_of : List ℕ → List (List ℕ)
lines_of text = map without_cr ((cut_lines text).full ++ last_line (cut_lines text).last)

-- the lines of `warnings`: a CR before an LF is dropped, and one at the end of the last piece stays
unfoldable pub warning_lines : List ℕ → List (List ℕ)
warning_lines text = map without_cr (cut_lines text).full ++ last_line (cut_lines text).last
