-- How a reading goes on from token to token, and where it stops.
use Rattle.std.specs.Prelude.{◌≡◌, ℕ, Bool, true, false, List, [], ◌∷◌, Option, Some, None, ⊤}
use Rattle.meaning_graph.specs.Tokens.{Token, word, string, BeginsWith}
use Rattle.meaning_graph.specs.Lexing.{past_gap}
use Rattle.meaning_graph.specs.Going.{Class, identifier, any_word, any_string, name_string, Stage, accepts, Expected, expect, start, expected_after}
use Rattle.dg_reader.specs.declared.cursor.Stop.{Stop}
use Rattle.dg_reader.specs.declared.cursor.Stop.TheVariants.{Unexpected, Memory}
use Rattle.dg_reader.specs.declared.cursor.Wanted.{Wanted}
use Rattle.dg_reader.specs.declared.cursor.Wanted.TheVariants.{Id, Word, String, NameString}

-- ---- one token

-- The text begins with the token, and after it and the gap there comes the rest.
pub record TakesToken (text : List ℕ) (t : Token) (rest : List ℕ) : Type 0 where
  pub left : List ℕ
  pub begins : BeginsWith text t left
  pub is : rest ≡ past_gap false left

-- The text doesn't begin with the token.
abbrev pub IsNotAt : Token → List ℕ → Type 0
IsNotAt t text = (left : List ℕ) → BeginsWith text t left → ⊥

-- The text begins with no token of the class.
abbrev pub HasNone : Class → List ℕ → Type 0
HasNone class text = (t : Token) (left : List ℕ) → BeginsWith text t left → accepts class t ≡ false

-- what an answer whether the token was taken says
abbrev pub SkipsToken : Bool → Token → List ℕ → List ℕ → Type 0
SkipsToken true t text rest = TakesToken text t rest
SkipsToken false t text rest = (rest ≡ text) × IsNotAt t text

-- the class of what is wanted
abbrev pub class_of : Wanted → Class
class_of Id = identifier
class_of Word = any_word
class_of String = any_string
class_of NameString = name_string

-- the token of this class that has these bytes
abbrev pub token_of : Wanted → List ℕ → Token
token_of Id bytes = word bytes
token_of Word bytes = word bytes
token_of String bytes = string bytes
token_of NameString bytes = string bytes

-- the token is of the class, and has these bytes
abbrev pub IsTokenOf : Wanted → List ℕ → Token → Type 0
IsTokenOf wanted bytes t = (t ≡ token_of wanted bytes) × (accepts (class_of wanted) t ≡ true)

-- A token of the class, with these bytes, was taken.
pub record Finds (wanted : Wanted) (bytes text rest : List ℕ) : Type 0 where
  pub accepted : accepts (class_of wanted) (token_of wanted bytes) ≡ true
  pub taken : TakesToken text (token_of wanted bytes) rest

-- A token of the class was taken, where one comes next.
abbrev pub MayFind : Wanted → Option (List ℕ) → List ℕ → List ℕ → Type 0
MayFind wanted None text rest = (rest ≡ text) × HasNone (class_of wanted) text
MayFind wanted (Some bytes) text rest = Finds wanted bytes text rest

-- ---- ways

-- From the text, expected tokens lead to the place, and what begins there isn't expected; or the text ends there too early.
pub data StopsAt : Expected → List ℕ → List ℕ → Type 0 where
  here : (e : Expected) (text : List ℕ) → ((t : Token) (left : List ℕ) → BeginsWith text t left → expected_after e.must e.stage t ≡ None) → (text ≡ [] → e ≡ start → ⊥) → StopsAt e text text
  behind : (e f : Expected) (text : List ℕ) (t : Token) (rest place : List ℕ) → TakesToken text t rest → expected_after e.must e.stage t ≡ Some f → StopsAt f rest place → StopsAt e text place

-- Where the one expectation stops from the rest, the other stops from the text.
abbrev pub CarriesStops : Expected → List ℕ → Expected → List ℕ → Type 0
CarriesStops e text f rest = (place : List ℕ) → StopsAt f rest place → StopsAt e text place

-- what a reading that stopped says of the place; nothing at want of memory
abbrev pub TokensHalt : Stop → Expected → List ℕ → List ℕ → Type 0
TokensHalt Unexpected e text place = StopsAt e text place
TokensHalt Memory e text place = ⊤

-- the same of what stopped it
abbrev pub TokensHaltAt : Expected → List ℕ → List ℕ → Stop → Type 0
TokensHaltAt e text place stop = TokensHalt stop e text place

-- it stopped where a token of this class was expected, whatever was after it
abbrev pub TokensHaltBefore : Class → List ℕ → List ℕ → Stop → Type 0
TokensHaltBefore class text place stop = (more : List Class) (stage : Stage) → TokensHalt stop (expect (class ∷ more) stage) text place
