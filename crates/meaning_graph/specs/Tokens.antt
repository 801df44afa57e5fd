-- The tokens of a graph file, and what may stand between them.
use Rattle.std.specs.Prelude.{◌≡◌, ℕ, ◌||◌, ◌==◌, Bool, true, false, not, IsTrue, List, [], ◌∷◌, ◌++◌}
use Rattle.meaning_texts.specs.Classes.{is_name_byte, IsWord, IsStringText}
use Rattle.meaning_texts.specs.Lines.{HasNoLf}

pub data Token : Type 0 where
  word : List ℕ → Token
  string : List ℕ → Token
  semicolon : Token
  comma : Token
  opening : Token
  closing : Token

-- a space, a tab, CR or LF
abbrev pub is_blank : ℕ → Bool
is_blank b = b == 32 || b == 9 || b == 13 || b == 10

abbrev pub begins_in_class : (ℕ → Bool) → List ℕ → Bool
begins_in_class class [] = false
begins_in_class class (b ∷ rest) = class b

-- the end of the text, or an LF
abbrev pub is_line_end : List ℕ → Bool
is_line_end [] = true
is_line_end (b ∷ rest) = b == 10

-- The text begins with this token, a word being of the longest length, and then comes the rest.
pub data BeginsWith : List ℕ → Token → List ℕ → Type 0 where
  a_word : (w rest : List ℕ) → IsWord w → begins_in_class is_name_byte rest ≡ false
      → BeginsWith (w ++ rest) (word w) rest
  a_string : (s rest : List ℕ) → IsStringText s → BeginsWith (34 ∷ (s ++ 34 ∷ rest)) (string s) rest
  a_semicolon : (rest : List ℕ) → BeginsWith (59 ∷ rest) semicolon rest
  a_comma : (rest : List ℕ) → BeginsWith (44 ∷ rest) comma rest
  an_opening : (rest : List ℕ) → BeginsWith (40 ∷ rest) opening rest
  a_closing : (rest : List ℕ) → BeginsWith (41 ∷ rest) closing rest

-- The text begins with these tokens, with blanks and comments before and after each, and then
-- comes the rest. A comment is left whole.
pub data Tokens : List ℕ → List Token → List ℕ → Type 0 where
  no_more : (rest : List ℕ) → Tokens rest [] rest
  blank : (b : ℕ) (text : List ℕ) (tokens : List Token) (rest : List ℕ) → IsTrue (is_blank b)
      → Tokens text tokens rest → Tokens (b ∷ text) tokens rest
  comment : (words text : List ℕ) (tokens : List Token) (rest : List ℕ) → HasNoLf words
      → IsTrue (is_line_end text) → Tokens text tokens rest
      → Tokens (35 ∷ (words ++ text)) tokens rest
  one : (whole : List ℕ) (t : Token) (text : List ℕ) (tokens : List Token) (rest : List ℕ)
      → BeginsWith whole t text → Tokens text tokens rest → Tokens whole (t ∷ tokens) rest

-- a byte that begins neither a blank nor a comment, or the end
abbrev pub is_past_gap : List ℕ → Bool
is_past_gap text = not (begins_in_class (λ b. is_blank b || b == 35) text)
