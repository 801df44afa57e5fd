-- What holds of every text that is shown.
use Rattle.std.specs.Prelude.{◌≡◌, ◌≢◌, ⊤, ℕ, ◌≤◌, ◌<◌, ◌⊎◌, Bool, true, not, ◌&&◌, ◌==◌, List, [], ◌∷◌, slice_index, flat_map, encode_utf8_all, if◌then◌else◌}
use Rattle.std.specs.Char.{encode_utf8}
use Rattle.std.specs.Str.{IsUtf8, all_scalars}
use Rattle.odin_bytes.specs.Spellings.{AreBytes}
use Rattle.shown_texts.specs.Shown.{moves, spelling, shown, unshown}

-- No control stands at the front: none of one byte, and none of two, which are 194 and a byte from 128 to 159.
-- And no character that turns or breaks what is shown: U+061C, U+200E, U+200F, U+2028 to U+202E, U+2066 to U+2069.
pub record BeginsStill (a b c : ℕ) : Type 0 where
  pub control : 32 ≤ a
  pub delete : a ≢ 127
  pub long_control : a ≡ 194 → b < 128 ⊎ 160 ≤ b
  pub letter_mark : a ≡ 216 → b ≢ 156
  pub mark : a ≡ 226 → b ≡ 128 → c < 142 ⊎ 143 < c
  pub turn : a ≡ 226 → b ≡ 128 → c < 168 ⊎ 174 < c
  pub isolate : a ≡ 226 → b ≡ 129 → c < 166 ⊎ 169 < c

-- nor at any place after it
abbrev pub MovesNothing : List ℕ → Type 0
MovesNothing [] = ⊤
MovesNothing (b ∷ rest) = BeginsStill b (slice_index rest 0) (slice_index rest 1) × MovesNothing rest

-- no byte of what is shown is a control, and no character in it moves what is shown
abbrev pub ShownMovesNothing : Type 0
ShownMovesNothing = (text : List ℕ) → AreBytes text → MovesNothing (shown text)

-- it is a text of UTF-8, whatever it is of
abbrev pub ShownIsUtf8 : Type 0
ShownIsUtf8 = (text : List ℕ) → AreBytes text → IsUtf8 (shown text)

-- ---- texts of UTF-8

-- the character stays
abbrev pub stays : ℕ → Bool
stays code = not (moves code) && not (code == 92)

-- its bytes, or each of them spelled
abbrev pub shown_character : ℕ → List ℕ
shown_character code =
    if stays code then encode_utf8 code else flat_map spelling (encode_utf8 code)

-- a text of characters is shown one by one
abbrev pub ShownByCharacters : Type 0
ShownByCharacters =
    (codes : List ℕ) → all_scalars codes ≡ true
    → shown (encode_utf8_all codes) ≡ flat_map shown_character codes

-- ---- and back

-- two texts that are shown the same are the same
abbrev pub ShownTellsText : Type 0
ShownTellsText =
    (a b : List ℕ) → AreBytes a → AreBytes b → shown a ≡ shown b → a ≡ b

-- what is shown has all of the text
abbrev pub ShownIsReadBack : Type 0
ShownIsReadBack = (text : List ℕ) → AreBytes text → unshown (shown text) ≡ text
