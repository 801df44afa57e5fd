-- Worked examples of what is shown.
use Rattle.std.specs.Prelude.{◌≡◌, [], ◌∷◌, codes, encode_utf8_all}
use Rattle.shown_texts.specs.Shown.{shown}

-- what stays: ASCII, letters of two, three and four bytes
pub record Letters : Type 0 where
  pub ascii : shown (codes "a.c:1: it's {x}~") ≡ codes "a.c:1: it's {x}~"
  pub two : shown (encode_utf8_all (codes "grün")) ≡ encode_utf8_all (codes "grün")
  pub three : shown (encode_utf8_all (codes "a€")) ≡ encode_utf8_all (codes "a€")
  pub four : shown (encode_utf8_all (codes "😀!")) ≡ encode_utf8_all (codes "😀!")

-- a backslash, a tab, and the sequence that clears a screen
pub record Spelled : Type 0 where
  pub backslash : shown (codes "a\\b") ≡ codes "a\\\\b"
  pub tab : shown (97 ∷ 9 ∷ []) ≡ codes "a\\t"
  pub clear : shown (27 ∷ codes "[2J") ≡ codes "\\x1b[2J"
  pub delete : shown (127 ∷ []) ≡ codes "\\x7f"

-- a first byte alone, too long a spelling of a slash, a surrogate, a code past the last
pub record NoCharacters : Type 0 where
  pub alone : shown (195 ∷ []) ≡ codes "\\xc3"
  pub cut : shown (0xE2 ∷ 0x82 ∷ 97 ∷ []) ≡ codes "\\xe2\\x82a"
  pub overlong : shown (0xC0 ∷ 0xAF ∷ []) ≡ codes "\\xc0\\xaf"
  pub surrogate : shown (0xED ∷ 0xA0 ∷ 0x80 ∷ []) ≡ codes "\\xed\\xa0\\x80"
  pub past : shown (0xF4 ∷ 0x90 ∷ 0x80 ∷ 0x80 ∷ []) ≡ codes "\\xf4\\x90\\x80\\x80"

-- a control of two bytes, and one that turns all after it from right to left
pub record Movers : Type 0 where
  pub control : shown (0xC2 ∷ 0x9B ∷ []) ≡ codes "\\xc2\\x9b"
  pub override : shown (0xE2 ∷ 0x80 ∷ 0xAE ∷ 97 ∷ []) ≡ codes "\\xe2\\x80\\xaea"
  pub isolate : shown (0xE2 ∷ 0x81 ∷ 0xA6 ∷ []) ≡ codes "\\xe2\\x81\\xa6"
