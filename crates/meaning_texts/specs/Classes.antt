-- The classes of bytes and of words, of which all texts are made.
use Rattle.std.specs.Prelude.{ℕ, ◌<◌, ◌≤◌, Bool, false, ◌&&◌, ◌||◌, not, nat_le, ◌==◌, IsTrue, All, List, [], ◌∷◌, length}
use Rattle.meaning_texts.specs.Limits.{word_limit}

-- A to Z and a to z
abbrev pub is_letter : ℕ → Bool
is_letter b = (nat_le 65 b && nat_le b 90) || (nat_le 97 b && nat_le b 122)

-- 0 to 9
abbrev pub is_digit : ℕ → Bool
is_digit b = nat_le 48 b && nat_le b 57

-- a letter, a digit, `.`, `_`, `-` or `/`
abbrev pub is_name_byte : ℕ → Bool
is_name_byte b = is_letter b || is_digit b || b == 46 || b == 95 || b == 45 || b == 47

-- a letter, a digit or `_`
abbrev pub is_key_byte : ℕ → Bool
is_key_byte b = is_letter b || is_digit b || b == 95

-- printable, and none of `+`, `:` and `%`
abbrev pub is_value_byte : ℕ → Bool
is_value_byte b = nat_le 33 b && nat_le b 126 && not (b == 43 || b == 58 || b == 37)

-- a space or printable, and not `"`
abbrev pub is_string_byte : ℕ → Bool
is_string_byte b = nat_le 32 b && nat_le b 126 && not (b == 34)

-- one byte or more, at most 255, each of this class
pub record IsWordOf (class : ℕ → Bool) (text : List ℕ) : Type 0 where
  pub some : 0 < length text
  pub short : length text ≤ word_limit
  pub each : All (λ b. IsTrue (class b)) text

-- NAME, the name of a source
abbrev pub IsName : List ℕ → Type 0
IsName = IsWordOf is_name_byte

-- WORD, as a tool's version and a suffix
abbrev pub IsWord : List ℕ → Type 0
IsWord = IsWordOf is_name_byte

-- KEY, what a pick takes
abbrev pub IsKey : List ℕ → Type 0
IsKey = IsWordOf is_key_byte

abbrev pub begins_with_letter : List ℕ → Bool
begins_with_letter [] = false
begins_with_letter (b ∷ rest) = is_letter b

-- ID, the name of a type, a parameter, a maker or a part
pub record IsId (text : List ℕ) : Type 0 where
  pub key : IsKey text
  pub letter : IsTrue (begins_with_letter text)

-- VALUE, the value of a parameter
abbrev pub IsParamValue : List ℕ → Type 0
IsParamValue text = All (λ b. IsTrue (is_value_byte b)) text

-- what stands between the quotes of a STRING
pub record IsStringText (text : List ℕ) : Type 0 where
  pub short : length text ≤ word_limit
  pub each : All (λ b. IsTrue (is_string_byte b)) text
