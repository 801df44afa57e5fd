-- Bytes that are taken from the front of a text: runs of a class, single bytes and words.
use Rattle.std.specs.Prelude.{◌≡◌, ℕ, Bool, true, false, ◌==◌, List, [], ◌∷◌, ◌++◌, Option, Some, None, ⊤}
use Rattle.std.specs.List.{list_all}
use Rattle.meaning_texts.specs.Classes.{is_name_byte, is_key_byte, is_value_byte, begins_with_letter, IsName, IsId, IsKey}
use Rattle.request_parser.specs.declared.bytes.Class.{Class}
use Rattle.request_parser.specs.declared.bytes.Class.TheVariants as class
use Rattle.request_parser.specs.declared.bytes.Wanted.{Wanted}
use Rattle.request_parser.specs.declared.bytes.Wanted.TheVariants as wanted
use Rattle.request_parser.specs.declared.cursor.Stop.{Stop}
use Rattle.request_parser.specs.declared.cursor.Stop.TheVariants.{Unexpected, Memory}

-- ---- classes

abbrev pub has : Class → ℕ → Bool
has class.Space b = b == 32
has class.Name b = is_name_byte b
has class.Key b = is_key_byte b
has class.Value b = is_value_byte b

-- the bytes of a word
abbrev pub word_class_of : Wanted → Class
word_class_of wanted.Name = class.Name
word_class_of wanted.Id = class.Key
word_class_of wanted.Key = class.Key

-- a run of its bytes begins with one that a word may begin with
abbrev pub begins : Wanted → List ℕ → Bool
begins wanted [] = false
begins wanted.Name (b ∷ rest) = true
begins wanted.Id (b ∷ rest) = begins_with_letter (b ∷ rest)
begins wanted.Key (b ∷ rest) = true

abbrev pub IsWantedWord : Wanted → List ℕ → Type 0
IsWantedWord wanted.Name = IsName
IsWantedWord wanted.Id = IsId
IsWantedWord wanted.Key = IsKey

-- ---- what comes next

-- the first byte, if there is one
abbrev pub next : List ℕ → Option ℕ
next [] = None
next (b ∷ rest) = Some b

-- No byte of the class comes next.
abbrev pub IsPast : (ℕ → Bool) → List ℕ → Type 0
IsPast test [] = ⊤
IsPast test (b ∷ rest) = test b ≡ false

-- ---- what is taken

-- The longest run of such bytes was taken.
pub record TakesRun (test : ℕ → Bool) (run text rest : List ℕ) : Type 0 where
  pub is : text ≡ run ++ rest
  pub each : list_all test run ≡ true
  pub past : IsPast test rest

-- what an answer whether the byte was taken says
abbrev pub SkipsByte : Bool → ℕ → List ℕ → List ℕ → Type 0
SkipsByte true b text rest = text ≡ b ∷ rest
SkipsByte false b text rest = (rest ≡ text) × (next text ≡ Some b → ⊥)

-- The longest word of the class was taken.
pub record TakesWord (wanted : Wanted) (word text rest : List ℕ) : Type 0 where
  pub is : text ≡ word ++ rest
  pub of : IsWantedWord wanted word
  pub past : IsPast (has (word_class_of wanted)) rest

-- ---- where no word is

-- The bytes before the place go on to a word of the class, and with what comes there they are no
-- word, taken at its longest, and a rest.
pub record HaltsInWord (wanted : Wanted) (text place : List ℕ) : Type 0 where
  pub done : List ℕ
  pub more : List ℕ
  pub is : text ≡ done ++ place
  pub goes : IsWantedWord wanted (done ++ more)
  pub stops : (behind word rest : List ℕ) → next behind ≡ next place
      → done ++ behind ≡ word ++ rest → IsWantedWord wanted word → IsPast (has (word_class_of wanted)) rest → ⊥

-- what a word that wasn't read says of the place; nothing at want of memory
abbrev pub InWord : Stop → Wanted → List ℕ → List ℕ → Type 0
InWord Unexpected wanted text place = HaltsInWord wanted text place
InWord Memory wanted text place = ⊤

-- the same of what stopped it
abbrev pub HaltsBefore : Wanted → List ℕ → List ℕ → Stop → Type 0
HaltsBefore wanted text place stop = InWord stop wanted text place
