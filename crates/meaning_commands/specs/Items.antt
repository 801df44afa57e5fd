-- What an input is made of: items, each a line and the bytes after it that belong to its command.
--
-- The bytes after a `put` belong to it whatever they are, so an input is not cut into lines first: where an item ends depends on the
-- command that its line spells.
use Rattle.std.specs.Prelude.{◌≡◌, ◌⊎◌, ℕ, ◌<◌, Bool, true, false, List, [], ◌∷◌, ◌++◌, length}
use Rattle.meaning_texts.specs.Lines.{HasNoLf, without_cr}

-- the commands of a program
pub record Language (Command : Type 0) : Type 1 where
  -- the line, without its end, is this command
  pub Spells : Command → List ℕ → Type 0
  -- how many bytes after its line belong to the command
  pub takes : Command → ℕ
  -- whether these bytes mean anything to the command; it passes over them where they don't
  pub keeps_body : Command → Bool
  -- whether the run ends after the command
  pub ends_run : Command → Bool

-- a command's line without its LF, and the bytes after it that belong to the command
pub record Item : Type 0 where
  pub line : List ℕ
  pub body : List ℕ

abbrev pub item_bytes : Item → List ℕ
item_bytes item = item.line ++ 10 ∷ item.body

abbrev pub all_bytes : List Item → List ℕ
all_bytes [] = []
all_bytes (item ∷ items) = item_bytes item ++ all_bytes items

-- a last line without LF, which may be empty
abbrev pub last_item : List ℕ → Item
last_item line = record { line = line; body = [] }

module _ {Command : Type 0} (lang : Language Command) where
  -- the item is this command
  pub record IsItem (item : Item) (command : Command) : Type 0 where
    pub no_lf : HasNoLf item.line
    pub spelled : lang.Spells command (without_cr item.line)
    pub size : length item.body ≡ lang.takes command

  -- The bytes are those that stand after the command's line, where it keeps them.
  abbrev pub SameBody : Command → List ℕ → List ℕ → Type 0
  SameBody command body given = lang.keeps_body command ≡ true → body ≡ given

  -- the item is some command after which the session goes on
  pub record GoesOnAt (item : Item) : Type 0 where
    pub command : Command
    pub item_is : IsItem item command
    pub on : lang.ends_run command ≡ false

  -- the session goes on after each of them
  abbrev pub AllGoOn : List Item → Type 0
  AllGoOn [] = Unit {0}
  AllGoOn (item ∷ items) = GoesOnAt item × AllGoOn items

  -- the item is some command that ends the run
  pub record EndsAt (item : Item) : Type 0 where
    pub command : Command
    pub item_is : IsItem item command
    pub ends : lang.ends_run command ≡ true

  -- a command's whole line, and less than the bytes that belong to it
  pub record IsPartialCommand (part : List ℕ) (command : Command) : Type 0 where
    pub line : List ℕ
    pub body : List ℕ
    pub no_lf : HasNoLf line
    pub spelled : lang.Spells command (without_cr line)
    pub missing : length body < lang.takes command
    pub is : part ≡ line ++ 10 ∷ body

  -- less than an item: a part of a line, or a command that lacks bytes
  abbrev pub IsPart : List ℕ → Type 0
  IsPart part = HasNoLf part ⊎ ((command : Command) × IsPartialCommand part command)

  -- a last line whose command takes bytes
  pub record IsUnended (part : List ℕ) (command : Command) : Type 0 where
    pub no_lf : HasNoLf part
    pub spelled : lang.Spells command (without_cr part)
    pub takes_some : 0 < lang.takes command

  -- the end of an input inside a command: its bytes are not all there
  pub record IsCutShort (part : List ℕ) : Type 0 where
    pub command : Command
    pub where_it_ends : IsPartialCommand part command ⊎ IsUnended part command

  -- the input ends inside a command
  pub record EndsInside (input : List ℕ) : Type 0 where
    pub items : List Item
    pub on : AllGoOn items
    pub part : List ℕ
    pub cuts : input ≡ all_bytes items ++ part
    pub short : IsCutShort part

  -- the input says that the run ends: after its first items stands one that ends it, whole
  pub record SaysEnd (input : List ℕ) : Type 0 where
    pub items : List Item
    pub on : AllGoOn items
    pub item : Item
    pub ends : EndsAt item
    pub rest : List ℕ
    pub cuts : input ≡ all_bytes items ++ (item_bytes item ++ rest)

  -- a line is one command
  abbrev pub OneSpelled : Type 0
  OneSpelled = (a b : Command) (line : List ℕ) → lang.Spells a line → lang.Spells b line → b ≡ a

  -- an input is cut in one way only into items and less than an item
  abbrev pub OneCut : Type 0
  OneCut = (items items' : List Item) (part part' : List ℕ) → AllGoOn items → AllGoOn items' → IsPart part → IsPart part'
      → all_bytes items ++ part ≡ all_bytes items' ++ part' → (items ≡ items') × (part ≡ part')
