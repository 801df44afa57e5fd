-- A token that borrows from a text, as the token that it is.
use Rattle.std.specs.Prelude.{ℕ, List, ◌∷◌, Option, Some, None, if◌then◌else◌}
use Rattle.meaning_texts.specs.Tests.{is_name}
use Rattle.meaning_graph.specs.Tokens.{Token, word, string, semicolon, comma, opening, closing}
use Rattle.meaning_graph.specs.Lexing.{Taken, taken, token_at, name_front, past_names}
use Rattle.dg_reader.specs.declared.lexer.Token.{Token as Borrowed}
use Rattle.dg_reader.specs.declared.lexer.Token.TheVariants.{Word, String, Semicolon, Comma, Opening, Closing}

abbrev pub token_view : Borrowed → Token
token_view (Word bytes) = word bytes.now
token_view (String bytes) = string bytes.now
token_view Semicolon = semicolon
token_view Comma = comma
token_view Opening = opening
token_view Closing = closing

-- the bytes of a word, and of a string
abbrev pub word_in : Token → Option (List ℕ)
word_in (word w) = Some w
word_in other = None

abbrev pub string_in : Token → Option (List ℕ)
string_in (string s) = Some s
string_in other = None

-- the longest word with which a text begins, and what follows it
abbrev pub word_at_front : List ℕ → Option Taken
word_at_front text = if is_name (name_front text) then Some (taken (word (name_front text)) (past_names text)) else None

-- the string whose first quote stands before the text
abbrev pub string_of : List ℕ → Option Taken
string_of text = token_at (34 ∷ text)
