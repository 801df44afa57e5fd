-- What a session has read, written and kept where it ends.
--
-- Each ending is said of the bytes that were read and of what is left of the input. A source that does not tell what is left, and a sink
-- that does not tell what it took, leave the bytes open that were read or written; the rest is said of them all the same.
use Rattle.std.specs.Prelude.{◌≡◌, ◌⊎◌, ℕ, ◌<◌, ◌≤◌, List, [], ◌∷◌, ◌++◌, length, Option, IfSome}
use Rattle.std.specs.List.{concat}
use Rattle.odin_outside.specs.Told.{prepended}
use Rattle.meaning_commands.specs.Objects.{took, TookPart}
use Rattle.meaning_commands.specs.Items.{Language, Item, item_bytes, all_bytes, last_item, AllGoOn, EndsAt, IsPart, IsCutShort}
use Rattle.meaning_commands.specs.Machines.{Machine, AnswersItem, ItemMayLeave, Transcript, Halt, before_reply, within_reply, behind_reply}

-- how many bytes of an input are read at most
abbrev pub input_limit : ℕ
input_limit = 1073741824

-- how many bytes of an input are read at once at most
abbrev pub piece_limit : ℕ
piece_limit = 65536

-- nothing is left of the input, where that is told
abbrev pub IsSpent : Option (List ℕ) → Type 0
IsSpent left = IfSome left (λ rest. rest ≡ [])

-- No more bytes of the input were read than may be, and it ends so with these bytes and what is left.
pub record HasRead (EndsSo : List ℕ → Option (List ℕ) → Type 0) (input left : Option (List ℕ)) : Type 0 where
  pub read : List ℕ
  pub bytes : input ≡ prepended read left
  pub within : length read ≤ input_limit
  pub ends : EndsSo read left

-- the item stands after these bytes in what was read: with its LF, or as the last line of the input
abbrev pub ItemStandsAfter : List ℕ → Option (List ℕ) → List ℕ → Item → Type 0
ItemStandsAfter read left before item = ((rest : List ℕ) × (read ≡ before ++ (item_bytes item ++ rest))) ⊎ ((read ≡ before ++ item.line) × (item.body ≡ []) × IsSpent left)

-- It stands there with its LF, and less than a piece was read after it.
pub record IsLastWithLf (read before : List ℕ) (item : Item) : Type 0 where
  pub rest : List ℕ
  pub bytes : read ≡ before ++ (item_bytes item ++ rest)
  pub few : length rest < piece_limit

-- It is the last line of an input that was read to its end.
pub record IsLastLine (read : List ℕ) (left : Option (List ℕ)) (before : List ℕ) (item : Item) : Type 0 where
  pub bytes : read ≡ before ++ item.line
  pub alone : item.body ≡ []
  pub short : length read < input_limit
  pub spent : IsSpent left

-- the item is the last one that was read, whole
abbrev pub StandsLast : List ℕ → Option (List ℕ) → List ℕ → Item → Type 0
StandsLast read left before item = IsLastWithLf read before item ⊎ IsLastLine read left before item

module _ {Command Code State Told : Type 0} (lang : Language Command) (m : Machine Command Code State Told) where
  -- The replies to these items were taken and nothing else, and all of them are acknowledged in what is kept.
  pub record RepliesTo (first : State) (start told : Told) (items : List Item) : Type 0 where
    pub replies : List (List ℕ)
    pub state : State
    pub run : Transcript lang m.Step first items replies state
    pub wrote : m.sink told ≡ took (m.sink start) (concat replies)
    pub exit : m.AtExit first start state state told

  -- the input was read to its end; it is items and a last line, and all of them were answered
  pub record EndsWhole (first : State) (start told : Told) (read : List ℕ) (left : Option (List ℕ)) : Type 0 where
    pub served : List Item
    pub last : List ℕ
    pub cuts : read ≡ all_bytes served ++ last
    pub on : AllGoOn lang served
    pub replied : RepliesTo first start told (served ++ last_item last ∷ [])
    pub short : length read < input_limit
    pub spent : IsSpent left

  -- the input was read to its end, which is inside a command, and what stands before that was answered
  pub record EndsCutShort (first : State) (start told : Told) (read : List ℕ) (left : Option (List ℕ)) : Type 0 where
    pub served : List Item
    pub part : List ℕ
    pub cuts : read ≡ all_bytes served ++ part
    pub on : AllGoOn lang served
    pub inside : IsCutShort lang part
    pub replied : RepliesTo first start told served
    pub short : length read < input_limit
    pub spent : IsSpent left

  -- every item that was read whole was answered
  pub record IsUpTo (first : State) (start told : Told) (read : List ℕ) : Type 0 where
    pub served : List Item
    pub part : List ℕ
    pub cuts : read ≡ all_bytes served ++ part
    pub on : AllGoOn lang served
    pub less : IsPart lang part
    pub replied : RepliesTo first start told served

  -- the next read failed, of bytes that might still be read
  pub record EndsUnread (first : State) (start told : Told) (read : List ℕ) (left : Option (List ℕ)) : Type 0 where
    pub up_to : IsUpTo first start told read
    pub short : length read < input_limit

  -- as many bytes were read as may be
  pub record EndsAtLimit (first : State) (start told : Told) (read : List ℕ) (left : Option (List ℕ)) : Type 0 where
    pub up_to : IsUpTo first start told read
    pub all : length read ≡ input_limit

  -- the first items were answered, and the next command may have left its effect
  pub record EndsBeforeReply (first : State) (start told : Told) (read : List ℕ) (left : Option (List ℕ)) : Type 0 where
    pub served : List Item
    pub rest : List ℕ
    pub cuts : read ≡ all_bytes served ++ rest
    pub on : AllGoOn lang served
    pub replies : List (List ℕ)
    pub state : State
    pub run : Transcript lang m.Step first served replies state
    pub furthest : State
    pub may : (furthest ≡ state) ⊎ ((item : Item) × ItemStandsAfter read left (all_bytes served) item × ItemMayLeave lang m state item furthest)
    pub wrote : m.sink told ≡ took (m.sink start) (concat replies)
    pub exit : m.AtExit first start state furthest told

  -- the first items were answered, and the next reply was cut off
  pub record EndsWithinReply (first : State) (start told : Told) (read : List ℕ) (left : Option (List ℕ)) : Type 0 where
    pub served : List Item
    pub on : AllGoOn lang served
    pub item : Item
    pub stands : ItemStandsAfter read left (all_bytes served) item
    pub replies : List (List ℕ)
    pub state : State
    pub run : Transcript lang m.Step first served replies state
    pub reply : List ℕ
    pub new : State
    pub answer : AnswersItem lang m.Step state item reply new
    pub wrote : TookPart reply (took (m.sink start) (concat replies)) (m.sink told)
    pub exit : m.AtExit first start state new told

  -- The last item that was read ends the run, and it and those before it were answered. What stands after it wasn't.
  pub record EndsAtWord (first : State) (start told : Told) (read : List ℕ) (left : Option (List ℕ)) : Type 0 where
    pub served : List Item
    pub on : AllGoOn lang served
    pub item : Item
    pub ends : EndsAt lang item
    pub stands : StandsLast read left (all_bytes served) item
    pub replied : RepliesTo first start told (served ++ item ∷ [])

  abbrev pub EndsStopped : Halt → State → Told → Told → List ℕ → Option (List ℕ) → Type 0
  EndsStopped before_reply = EndsBeforeReply
  EndsStopped within_reply = EndsWithinReply
  EndsStopped behind_reply = EndsAtWord
