-- The tokens of a text, computed.
use Rattle.std.specs.Prelude.{ℕ, Bool, true, false, ◌==◌, List, [], ◌∷◌, Option, Some, None, if◌then◌else◌}
use Rattle.std.specs.Option.{option_map}
use Rattle.meaning_texts.specs.Classes.{is_name_byte}
use Rattle.meaning_texts.specs.Tests.{is_name, is_string_text}
use Rattle.meaning_graph.specs.Tokens.{Token, word, string, semicolon, comma, opening, closing, is_blank}

-- the text from the first byte that begins neither a blank nor a comment, inside a comment where
-- the flag is set
abbrev pub past_gap : Bool → List ℕ → List ℕ
past_gap inside [] = []
past_gap false (b ∷ rest) =
    if is_blank b then past_gap false rest else if b == 35 then past_gap true rest else b ∷ rest
past_gap true (b ∷ rest) = if b == 10 then past_gap false rest else past_gap true rest

-- the longest front of name bytes, and what follows it
abbrev pub name_front : List ℕ → List ℕ
name_front [] = []
name_front (b ∷ rest) = if is_name_byte b then b ∷ name_front rest else []

abbrev pub past_names : List ℕ → List ℕ
past_names [] = []
past_names (b ∷ rest) = if is_name_byte b then past_names rest else b ∷ rest

-- what stands before the first quote, and what after it, if there is one
abbrev pub before_quote : List ℕ → List ℕ
before_quote [] = []
before_quote (b ∷ rest) = if b == 34 then [] else b ∷ before_quote rest

abbrev pub behind_quote : List ℕ → Option (List ℕ)
behind_quote [] = None
behind_quote (b ∷ rest) = if b == 34 then Some rest else behind_quote rest

-- a token, and what follows it
pub record Taken : Type 0 where
  pub token : Token
  pub rest : List ℕ

abbrev pub taken : Token → List ℕ → Taken
taken t rest = record { token = t; rest = rest }

-- a word and what follows it, where it is one
abbrev pub word_at : List ℕ → List ℕ → Option Taken
word_at w rest = if is_name w then Some (taken (word w) rest) else None

-- a string and what follows its quote, where there is one
abbrev pub string_at : List ℕ → Option (List ℕ) → Option Taken
string_at s rest = if is_string_text s then option_map (taken (string s)) rest else None

-- the token with which a text begins, if it begins with one
abbrev pub token_at : List ℕ → Option Taken
token_at [] = None
token_at (b ∷ rest) =
    if is_name_byte b then word_at (name_front (b ∷ rest)) (past_names (b ∷ rest))
    else if b == 34 then string_at (before_quote rest) (behind_quote rest)
    else if b == 59 then Some (taken semicolon rest)
    else if b == 44 then Some (taken comma rest)
    else if b == 40 then Some (taken opening rest)
    else if b == 41 then Some (taken closing rest)
    else None
