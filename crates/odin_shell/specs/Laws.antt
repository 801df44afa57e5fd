-- What holds of every input and of every session.
use Rattle.std.specs.Prelude.{◌≡◌, ℕ, ◌+◌, ◌<◌, ◌≤◌, ◌⊎◌, min, List, [], ◌∷◌, ◌++◌, length, bytes_eq, if◌then◌else◌, Option, Some}
use Rattle.object_values.specs.Texts.{Texts}
use Rattle.odin_outside.specs.Causes.{last_count}
use Rattle.odin_outside.specs.Files.{Files}
use Rattle.odin_outside.specs.Spawned.{Table}
use Rattle.odin_journal.specs.Trails.{after_changes}
use Rattle.meaning_graph.specs.Graphs.{Text, Graph}
use Rattle.meaning_derive.specs.Given.{AreSources, table_outcomes}
use Rattle.meaning_commands.specs.Items.{Item, IsItem, OneCut}
use Rattle.meaning_commands.specs.Machines.{AnswersItem, Transcript}
use Rattle.meaning_derive.specs.AnswerLaws.{BothShowChains}
use Rattle.odin_bytes.specs.declared.commands.Command.{Command}
use Rattle.odin_bytes.specs.declared.commands.Command.TheVariants.{Ask}
use Rattle.object_values.specs.declared.replies.Reply.{Reply}
use Rattle.object_values.specs.declared.replies.Reply.TheVariants.{Kept, RefusedRead, RefusedToolStart}
use Rattle.meaning_commands.specs.Replies.{reply_text}
use Rattle.odin_store.specs.Held.{Held, Change}
use Rattle.kept_derive.specs.Knowing.{RecordsAreTrue}
use Rattle.odin_store.specs.Keeping.{store_keeping}
use Rattle.odin_answers.specs.Laws.{IsTrueFor, KeepSame}
use Rattle.odin_shell.specs.Language.{commands}
use Rattle.odin_shell.specs.Machine.{SessionState, Step, StepIf, CommandMayLeave, CommandMayLeaveIf}
use Rattle.odin_shell.specs.declared.graph.Opened.{Opened}
use Rattle.odin_shell.specs.Opened.{GraphIsOpened}

-- ---- inputs and graphs

-- an input is cut in one way only into commands and less than a command
abbrev pub InputIsCutOnce : Type 0
InputIsCutOnce = OneCut commands

-- each file is opened: it is one of a checked graph, or is refused by a last line
abbrev pub EachIsOpened : Type 0
EachIsOpened = (given : Option Text) → (o : Opened) × GraphIsOpened given o

-- and in one way only: by one graph, or by one line
abbrev pub OpenedIsOne : Type 0
OpenedIsOne = (given : Option Text) (o p : Opened) → GraphIsOpened given o → GraphIsOpened given p → p ≡ o

-- ---- what is held

-- After each command, with its reply or without, the sources are names with texts that are not too long.
pub record SourcesStay : Type 0 where
  pub replied : (g : Graph) (limit : ℕ) (old new : SessionState) (item : Item) (command : Command) (reply : List ℕ)
      → AreSources old.held.sources → IsItem commands item command
      → Step g limit old command item.body reply new → AreSources new.held.sources
  pub left : (g : Graph) (limit : ℕ) (old furthest : SessionState) (item : Item) (command : Command)
      → AreSources old.held.sources → IsItem commands item command
      → CommandMayLeave g limit old command item.body furthest → AreSources furthest.held.sources

-- These changes were made on the way, and what is held at its end is what they make of what was held before it.
pub record ChangesAreMade (first last : SessionState) : Type 0 where
  pub made : List Change
  pub list : last.changes ≡ first.changes ++ made
  pub held : last.held ≡ after_changes store_keeping made first.held

-- What is held after a transcript is what its changes made, and so is what a command without a reply leaves.
pub record HeldIsMade : Type 0 where
  pub replied : (g : Graph) (limit : ℕ) (first last : SessionState) (items : List Item) (replies : List (List ℕ))
      → Transcript commands (Step g limit) first items replies last → ChangesAreMade first last
  pub left : (g : Graph) (limit : ℕ) (old furthest : SessionState) (command : Command) (body : List ℕ)
      → CommandMayLeave g limit old command body furthest → ChangesAreMade old furthest

-- Where the tools answer by a table what is kept stays what it gives, whatever is kept more.
pub record KeptStaysTrue : Type 0 where
  pub replied : (g : Graph) (limit : ℕ) (table : Table) (first last : SessionState)
      (items : List Item) (replies : List (List ℕ)) → IsTrueFor table first.tools first.held.calls
      → Transcript commands (Step g limit) first items replies last
      → IsTrueFor table last.tools last.held.calls
  pub left : (g : Graph) (limit : ℕ) (table : Table) (old furthest : SessionState)
      (command : Command) (body : List ℕ) → IsTrueFor table old.tools old.held.calls
      → CommandMayLeave g limit old command body furthest → IsTrueFor table furthest.tools furthest.held.calls

-- What is held of nodes stays true, with each command and without a reply.
pub record RecordsStayTrue : Type 0 where
  pub replied : (g : Graph) (limit : ℕ) (first last : SessionState) (items : List Item) (replies : List (List ℕ)) → RecordsAreTrue g first.held
      → Transcript commands (Step g limit) first items replies last → RecordsAreTrue g last.held
  pub left : (g : Graph) (limit : ℕ) (old furthest : SessionState) (command : Command) (body : List ℕ) → RecordsAreTrue g old.held
      → CommandMayLeave g limit old command body furthest → RecordsAreTrue g furthest.held

-- ---- where what was held of nodes is true

-- There what is said of replies and of what is left is said without a condition.
pub record TrustIsMet : Type 0 where
  pub replied : (from : Held) (g : Graph) (limit : ℕ) (first last : SessionState) (items : List Item) (replies : List (List ℕ)) → RecordsAreTrue g from
      → Transcript commands (StepIf (RecordsAreTrue g from) g limit) first items replies last → Transcript commands (Step g limit) first items replies last
  pub left : (from : Held) (g : Graph) (limit : ℕ) (old furthest : SessionState) (command : Command) (body : List ℕ) → RecordsAreTrue g from
      → CommandMayLeaveIf (RecordsAreTrue g from) g limit old command body furthest → CommandMayLeave g limit old command body furthest

-- ---- replies that tell faults

-- how many of these are the reply
abbrev pub count_of_reply : Reply → List (List ℕ) → ℕ
count_of_reply reply [] = 0
count_of_reply reply (bytes ∷ rest) =
    (if bytes_eq bytes (reply_text reply) then 1 else 0) + count_of_reply reply rest

-- No more replies are these than the counts of faults rose, each a count that stands still at the end
-- of its type.
pub record FitsCounts (first last : SessionState) (replies : List (List ℕ)) : Type 0 where
  pub starts : min (first.tools.faults + count_of_reply RefusedToolStart replies) last_count
      ≤ last.tools.faults
  pub reads : min (first.tree.faults + count_of_reply RefusedRead replies) last_count ≤ last.tree.faults

abbrev pub RefusalsAreCounted : Type 0
RefusalsAreCounted =
    (g : Graph) (limit : ℕ) (first last : SessionState) (items : List Item) (replies : List (List ℕ))
    → Transcript commands (Step g limit) first items replies last → FitsCounts first last replies

-- From the one count to the other no fault was counted. A count at its last number may hide one.
pub record NoFault (first last : ℕ) : Type 0 where
  pub same : last ≡ first
  pub below : first < last_count

-- From the one state to the other no fault of the tools or of the tree was counted.
pub record CountsNone (first last : SessionState) : Type 0 where
  pub tools : NoFault first.tools.faults last.tools.faults
  pub tree : NoFault first.tree.faults last.tree.faults

-- ---- transcripts of the same items

-- The item asks for a text, and both replies show chains of its node over these sources.
pub record BothRefuse (g : Graph) (table : Table) (texts : Texts) (item : Item)
    (bytes others : List ℕ) : Type 0 where
  pub text : Text
  pub asks : IsItem commands item (Ask text)
  pub reply : Reply
  pub other : Reply
  pub bytes_are : bytes ≡ reply_text reply
  pub others_are : others ≡ reply_text other
  pub chains : BothShowChains g texts (table_outcomes table) text reply other

-- Both tell how many calls are kept.
pub record BothCountKept (bytes others : List ℕ) (old old' : SessionState) : Type 0 where
  pub bytes_are : bytes ≡ reply_text (Kept (length old.held.calls))
  pub others_are : others ≡ reply_text (Kept (length old'.held.calls))

-- The replies are the same, but for the number of kept calls where it is asked for; and where the same calls are kept before, the same are
-- after it, and so the same are run.
pub record SaysSame (bytes others : List ℕ) (old new old' new' : SessionState) : Type 0 where
  pub reply : (others ≡ bytes) ⊎ BothCountKept bytes others old old'
  pub kept : KeepSame old.held.calls old'.held.calls → KeepSame new.held.calls new'.held.calls

-- The same item is answered alike: by the same reply, but for the choice of the chain that a refusal shows.
abbrev pub AreAlike : Graph → Table → Item → List ℕ → List ℕ → SessionState → SessionState → SessionState → SessionState → Type 0
AreAlike g table item bytes others old new old' new' =
    SaysSame bytes others old new old' new' ⊎ BothRefuse g table old.held.sources item bytes others

-- Two transcripts of the same items, side by side, each with its own limit of tools: each item is
-- answered alike, and the sources after it are the same.
pub data AreSideBySide (g : Graph) (limit most : ℕ) (table : Table)
    : SessionState → SessionState → List Item → List (List ℕ) → List (List ℕ) → SessionState → SessionState → Type 0 where
  at_end : (last last' : SessionState) → AreSideBySide g limit most table last last' [] [] [] last last'
  one_more : (item : Item) (items : List Item) (bytes others : List ℕ)
      (replies rest : List (List ℕ)) (old new old' new' last last' : SessionState)
      → AnswersItem commands (Step g limit) old item bytes new
      → AnswersItem commands (Step g most) old' item others new'
      → AreAlike g table item bytes others old new old' new' → new'.held.sources ≡ new.held.sources
      → AreSideBySide g limit most table new new' items replies rest last last'
      → AreSideBySide g limit most table old old' (item ∷ items) (bytes ∷ replies) (others ∷ rest) last last'

-- The replies are alike one by one, and the sources in the end are the same, and so is what is told
-- of the tree where it was the same at the start.
pub record AreSame (g : Graph) (limit most : ℕ) (table : Table) (items : List Item)
    (one other : List (List ℕ)) (first last first' last' : SessionState) : Type 0 where
  pub replies : AreSideBySide g limit most table first first' items one other last last'
  pub sources : last'.held.sources ≡ last.held.sources
  pub tree : first'.tree ≡ first.tree → last'.tree ≡ last.tree

-- Tools that answer by the table, true kept calls, and a tree of these files.
pub record IsToldByTable (table : Table) (files : Files) (first : SessionState) : Type 0 where
  pub right : IsTrueFor table first.tools first.held.calls
  pub files_are : first.tree.files ≡ Some files

-- Where a table and the files are told and no fault is counted, items have one transcript at most from the same sources, whatever is kept
-- and however many tools may run at once: so with nothing kept and one tool at a time, too.
abbrev pub TranscriptIsOne : Type 0
TranscriptIsOne =
    (g : Graph) (limit most : ℕ) (table : Table) (files : Files) (items : List Item)
    (one other : List (List ℕ)) (first last first' last' : SessionState)
    → first'.held.sources ≡ first.held.sources
    → IsToldByTable table files first → IsToldByTable table files first'
    → Transcript commands (Step g limit) first items one last → CountsNone first last
    → Transcript commands (Step g most) first' items other last' → CountsNone first' last'
    → AreSame g limit most table items one other first last first' last'
