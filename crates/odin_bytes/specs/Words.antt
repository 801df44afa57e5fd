-- Words and lines, cut from a text.
use Rattle.std.specs.Prelude.{◌≡◌, ℕ, List, ◌∷◌, ◌++◌, Option, Some, None}
use Rattle.meaning_texts.specs.Classes.{IsName}
use Rattle.meaning_texts.specs.Lists.{HasNo}
use Rattle.meaning_texts.specs.Lines.{cut_lines}

-- The text is what stands before its first such byte, the byte, and what stands after it.
abbrev pub IsCutAt : ℕ → List ℕ → List ℕ → List ℕ → Type 0
IsCutAt byte text before behind = (text ≡ before ++ byte ∷ behind) × HasNo byte before

-- The text's first line is this one, and its others are those of what stands after.
abbrev pub IsFirstLine : List ℕ → List ℕ → List ℕ → Type 0
IsFirstLine text line behind =
    let rest = cut_lines behind in cut_lines text ≡ record { full = line ∷ rest.full; last = rest.last }

-- the name that a word is, where it is one
abbrev pub MayName : List ℕ → Option (List ℕ) → Type 0
MayName word None = ¬ IsName word
MayName word (Some name) = (name ≡ word) × IsName name
