-- What the laws of names, numbers, escapes and fields say.
use Rattle.std.specs.Prelude.{◌≡◌, ℕ, ◌^◌, ◌<◌, List, ◌++◌, length, decimal}
use Rattle.meaning_texts.specs.Escapes.{escaped}
use Rattle.odin_bytes.specs.Fields.{u32_field, u64_field, bytes_field}
use Rattle.odin_bytes.specs.Spellings.{AreBytes}

-- A spelling of a number is of no other.
abbrev pub NumbersReadBack : Type 0
NumbersReadBack = (m n : ℕ) → m < 2 ^ 64 → n < 2 ^ 64 → decimal m ≡ decimal n → m ≡ n

-- A spelling of a text is of no other.
abbrev pub EscapesReadBack : Type 0
EscapesReadBack = (a b : List ℕ) → AreBytes a → AreBytes b → escaped a ≡ escaped b → a ≡ b

-- Where two fields of one kind begin what is the same, they and what is after them are the same.
pub record FieldsReadBack : Type 0 where
  pub u32s : (m n : ℕ) (behind rest : List ℕ) → m < 2 ^ 32 → n < 2 ^ 32 → u32_field m ++ behind ≡ u32_field n ++ rest → (m ≡ n) × (behind ≡ rest)
  pub u64s : (m n : ℕ) (behind rest : List ℕ) → m < 2 ^ 64 → n < 2 ^ 64 → u64_field m ++ behind ≡ u64_field n ++ rest → (m ≡ n) × (behind ≡ rest)
  pub bodies : (a b behind rest : List ℕ) → length a < 2 ^ 32 → length b < 2 ^ 32 → bytes_field a ++ behind ≡ bytes_field b ++ rest → (a ≡ b) × (behind ≡ rest)
