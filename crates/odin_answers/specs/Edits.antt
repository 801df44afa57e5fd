-- What commands on sources reply, and which sources come after them.
use Rattle.std.specs.Prelude.{◌≡◌, ◌⊎◌, ℕ, ◌<◌, ◌≤◌, List, length, map, Option, Some, None}
use Rattle.std.specs.FinMap.{get, insert, remove, entries}
use Rattle.object_values.specs.Texts.{Text, Texts}
use Rattle.odin_outside.specs.declared.tree.Tree.{Ghosts as TreeView}
use Rattle.odin_outside.specs.Causes.{IsCounted, once_more}
use Rattle.odin_outside.specs.Files.{Files, IsGiven}
use Rattle.meaning_texts.specs.Limits.{body_limit}
use Rattle.object_values.specs.declared.replies.Reply.{Reply}
use Rattle.object_values.specs.declared.replies.Reply.TheVariants as reply
use Rattle.meaning_commands.specs.Replies.{word_and_number, reply_text}

-- the bytes are those of a reply of which this holds
pub record SaysReply (P : Reply → Type 0) (bytes : List ℕ) : Type 0 where
  pub said : Reply
  pub bytes_are : bytes ≡ reply_text said
  pub holds : P said

-- ---- put

-- The text is the source's new one.
pub record IsInserted (old : Texts) (name text : Text) (size : ℕ) (accepted said : Reply) (new : Texts) : Type 0 where
  pub fits : size ≤ body_limit
  pub is : said ≡ accepted
  pub put : new ≡ insert old name text

-- It is longer than a text may be, and nothing changes.
pub record TextIsTooLong (old : Texts) (size : ℕ) (said : Reply) (new : Texts) : Type 0 where
  pub longer : body_limit < size
  pub is : said ≡ reply.RefusedSize
  pub same : new ≡ old

-- the text, of this size, is accepted by this reply or refused by its size
abbrev pub Inserts : Texts → Text → Text → ℕ → Reply → Reply → Texts → Type 0
Inserts old name text size accepted said new = IsInserted old name text size accepted said new ⊎ TextIsTooLong old size said new

abbrev pub Puts : Texts → Text → ℕ → Text → Reply → Texts → Type 0
Puts old name count body said new = Inserts old name body count (reply.Put name count) said new

-- ---- take

-- what a tree tells of its files, of its failures, and of how often it was asked for a file
pub record TreeTold : Type 0 where
  pub files : Option Files
  pub faults : ℕ
  pub reads : ℕ

abbrev pub tree_of : {T : Type 0} → TreeView T → T → TreeTold
tree_of view tree = record { files = view.files tree; faults = view.faults tree; reads = view.reads tree }

-- It keeps its files, and the count of its faults never falls.
pub record TreeStays (start now : TreeTold) : Type 0 where
  pub files : now.files ≡ start.files
  pub later : start.faults ≤ now.faults

-- It was asked for one file.
pub record TreeIsAsked (before now : TreeTold) : Type 0 where
  pub stays : TreeStays before now
  pub once : now.reads ≡ once_more before.reads

-- the file is the source's new text, or there is none
abbrev pub TakesFile : Texts → Text → Option Text → Reply → Texts → Type 0
TakesFile old name None said new = (said ≡ reply.NoFile name) × (new ≡ old)
TakesFile old name (Some text) said new = Inserts old name text (length text) (reply.Took name (length text)) said new

-- The tree gave what it has of the file.
pub record IsTaken (old : Texts) (name : Text) (before : TreeTold) (said : Reply) (new : Texts) (now : TreeTold) : Type 0 where
  pub file : Option Text
  pub given : IsGiven before.files name file
  pub takes : TakesFile old name file said new
  pub unfailed : now.faults ≡ before.faults

-- It failed, which was counted, and nothing changes.
pub record IsUnread (old : Texts) (before : TreeTold) (said : Reply) (new : Texts) (now : TreeTold) : Type 0 where
  pub failed : IsCounted before.faults now.faults
  pub is : said ≡ reply.RefusedRead
  pub same : new ≡ old

abbrev pub Takes : Texts → Text → TreeTold → Reply → Texts → TreeTold → Type 0
Takes old name before said new now = IsTaken old name before said new now ⊎ IsUnread old before said new now

-- ---- drop

abbrev pub RemovesText : Option Text → Texts → Text → Reply → Texts → Type 0
RemovesText None old name said new = (said ≡ reply.NoSource name) × (new ≡ old)
RemovesText (Some text) old name said new = (said ≡ reply.Dropped name) × (new ≡ remove old name)

-- the source is taken out, or there is none
abbrev pub Removes : Texts → Text → Reply → Texts → Type 0
Removes old name said new = RemovesText (get old name) old name said new

-- ---- sources

-- `NAME LEN`
abbrev pub source_line : Text × Text → List ℕ
source_line source = word_and_number source.0 (length source.1)

-- a line for each source, by the bytes of the names
abbrev pub source_lines : Texts → List (List ℕ)
source_lines texts = map source_line (entries texts)
