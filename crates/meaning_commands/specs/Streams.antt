-- A session between two bytes of its input, for any machine. What is promised of a step holds for every history that fits before it,
-- so that steps compose.
use Rattle.std.specs.Prelude.{◌≡◌, ℕ, ◌<◌, ◌≤◌, List, ◌++◌, length, Option}
use Rattle.std.specs.List.{concat}
use Rattle.odin_outside.specs.Told.{prepended}
use Rattle.meaning_commands.specs.Objects.{took}
use Rattle.meaning_commands.specs.Items.{Language, Item, item_bytes, all_bytes, AllGoOn, IsItem, SameBody}
use Rattle.meaning_commands.specs.Machines.{Machine, Transcript, Halt}
use Rattle.meaning_commands.specs.Endings.{input_limit, piece_limit, IsSpent, EndsWhole, EndsCutShort, EndsStopped}

-- Held is what the session holds of an item that is not whole yet, and Keeps says of which bytes.
module _ {Command Held : Type 0} (lang : Language Command) (Keeps : Held → List ℕ → Type 0) where
  -- the bytes belong to the part of an item that is held
  abbrev pub Extends : List ℕ → Held → Held → Type 0
  Extends bytes held held' = (part : List ℕ) → Keeps held part → Keeps held' (part ++ bytes)

  -- the bytes make the part that is held an item, of this command and with these bytes after its line, where it keeps them
  pub record IsMadeWhole (part bytes : List ℕ) (command : Command) (kept : List ℕ) : Type 0 where
    pub item : Item
    pub bytes_are : part ++ bytes ≡ item_bytes item
    pub item_is : IsItem lang item command
    pub body_is : SameBody lang command item.body kept

  abbrev pub CompletesItem : List ℕ → Held → Command → List ℕ → Type 0
  CompletesItem bytes held command kept = (part : List ℕ) → Keeps held part → IsMadeWhole part bytes command kept

module _ {Command Held Code State Told : Type 0} (lang : Language Command) (Keeps : Held → List ℕ → Type 0) (m : Machine Command Code State Told) where
  -- these bytes have come, and the whole items in them are answered
  pub record SoFar (first : State) (start : Told) (text : List ℕ) (told : Told) (code : Code) (held : Held) : Type 0 where
    pub served : List Item
    pub part : List ℕ
    pub cuts : text ≡ all_bytes served ++ part
    pub on : AllGoOn lang served
    pub replies : List (List ℕ)
    pub state : State
    pub run : Transcript lang m.Step first served replies state
    pub wrote : m.sink told ≡ took (m.sink start) (concat replies)
    pub fits : m.Invariant first start code state told
    pub keeps : Keeps held part

  -- the bytes take the session from one to the other, whatever came before
  abbrev pub GoesOn : List ℕ → Told → Code → Held → Told → Code → Held → Type 0
  GoesOn bytes told code held told' code' held' =
      (first : State) (start : Told) (text : List ℕ) → SoFar first start text told code held → SoFar first start (text ++ bytes) told' code' held'

  -- on its way through the bytes it stops, whatever came before and whatever was read after them in one piece, as far as may be read
  abbrev pub StopsOn : Halt → List ℕ → Told → Code → Held → Told → Type 0
  StopsOn halt bytes told code held told' =
      (first : State) (start : Told) (text more : List ℕ) (left : Option (List ℕ))
      → length (text ++ (bytes ++ more)) ≤ input_limit → length (bytes ++ more) ≤ piece_limit → SoFar first start text told code held
      → EndsStopped lang m halt first start told' (text ++ (bytes ++ more)) left

  -- the input ends, and all of it is answered, or it ends inside a command
  abbrev pub FinishesBy : (State → Told → Told → List ℕ → Option (List ℕ) → Type 0) → Told → Code → Held → Told → Type 0
  FinishesBy EndsSo told code held told' =
      (first : State) (start : Told) (text : List ℕ) (left : Option (List ℕ)) → length text < input_limit → IsSpent left → SoFar first start text told code held
      → EndsSo first start told' text left

  abbrev pub FinishesWhole : Told → Code → Held → Told → Type 0
  FinishesWhole = FinishesBy (EndsWhole lang m)

  abbrev pub FinishesCutShort : Told → Code → Held → Told → Type 0
  FinishesCutShort = FinishesBy (EndsCutShort lang m)

  -- the input ends, and the answer to its last line stops
  abbrev pub StopsAtEnd : Halt → Told → Code → Held → Told → Type 0
  StopsAtEnd halt = FinishesBy (EndsStopped lang m halt)

  -- how far the reading has come: from the input these bytes were taken, and so many
  pub record Reading (first : State) (start : Told) (input left : Option (List ℕ)) (count : ℕ) (told : Told) (code : Code) (held : Held) : Type 0 where
    pub text : List ℕ
    pub bytes : input ≡ prepended text left
    pub size : length text ≡ count
    pub so_far : SoFar first start text told code held
