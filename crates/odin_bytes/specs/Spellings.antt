-- Texts that spell nothing.
use Rattle.std.specs.Prelude.{◌≢◌, ◌++◌, ℕ, ◌^◌, ◌<◌, decimal, Bool, ◌&&◌, not, ◌==◌, List, slice_index}
use Rattle.meaning_texts.specs.Escapes.{is_printable, escaped_byte, escaped}

-- the byte stands for itself in an escaped text
abbrev pub is_plain : ℕ → Bool
is_plain b = is_printable b && not (b == 92)

-- each item is a byte
abbrev pub AreBytes : List ℕ → Type 0
AreBytes bytes = (i : ℕ) → slice_index bytes i < 256

-- no bytes have this spelling
abbrev pub SpellsNothing : List ℕ → Type 0
SpellsNothing spelling = (plain : List ℕ) → AreBytes plain → spelling ≢ escaped plain

-- the text begins with the escape of no byte
abbrev pub BeginsWithNoEscape : List ℕ → Type 0
BeginsWithNoEscape text = (byte : ℕ) (behind : List ℕ) → byte < 256 → text ≢ escaped_byte byte ++ behind

-- the text is the digits of no number that fits into a u64
abbrev pub IsNoNumber : List ℕ → Type 0
IsNoNumber text = (number : ℕ) → number < 2 ^ 64 → text ≢ decimal number
