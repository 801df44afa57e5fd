-- What a crash leaves of a session: the sources after some first edits, and calls that were kept at the start or belong to an ask of it.
use Rattle.std.specs.Prelude.{◌≡◌, ◌⊎◌, ℕ, ◌≤◌, List, [], ◌∷◌, ◌++◌, length, take, IsSome}
use Rattle.object_values.specs.declared.nodes.Node.{Node}
use Rattle.object_values.specs.declared.calls.Call.{Call}
use Rattle.odin_outside.specs.Disk.{MayLeave as MayBeLeft, IsQuiet}
use Rattle.odin_outside.specs.Spawned.{Table}
use Rattle.odin_journal.specs.Trails.{after_changes}
use Rattle.meaning_graph.specs.Graphs.{Text, Graph}
use Rattle.meaning_derive.specs.Derive.{Outcomes, derived}
use Rattle.meaning_derive.specs.Calls.{IsCallFrom}
use Rattle.meaning_derive.specs.Given.{table_outcomes}
use Rattle.meaning_derive.specs.Laws.{HasMore}
use Rattle.meaning_records.specs.Tables.{Calls, kept_outcome}
use Rattle.meaning_derive.specs.Answers as answers
use Rattle.meaning_commands.specs.Items.{Item, IsItem}
use Rattle.meaning_commands.specs.Machines.{Transcript}
use Rattle.odin_bytes.specs.declared.commands.Command.{Command}
use Rattle.odin_bytes.specs.declared.commands.Command.TheVariants.{Ask}
use Rattle.plain_derive.specs.Given.{AreGiven, HaveCome}
use Rattle.odin_store.specs.Held.{Held, StandsFor}
use Rattle.odin_store.specs.Keeping.{store_keeping}
use Rattle.kept_derive.specs.Knowing.{RecordsAreTrue}
use Rattle.odin_answers.specs.Answers.{Agrees}
use Rattle.odin_answers.specs.Laws.{IsTrueFor}
use Rattle.odin_outside.specs.declared.disk.Disk.{Ghosts as DiskView}
use Rattle.odin_shell.specs.Language.{commands}
use Rattle.odin_shell.specs.Machine.{SessionState, Told, Step, CommandMayLeave, StateAtExit}

-- A session has come this far over these items: all are answered, or the last of them was begun and has no reply.
pub data SessionComesTo (g : Graph) (limit : ℕ) (first : SessionState) : List Item → SessionState → Type 0 where
  answered : (items : List Item) (replies : List (List ℕ)) (state : SessionState) → Transcript commands (Step g limit) first items replies state → SessionComesTo g limit first items state
  begun : (items : List Item) (replies : List (List ℕ)) (state : SessionState) (item : Item) (command : Command) (furthest : SessionState)
      → Transcript commands (Step g limit) first items replies state → IsItem commands item command → CommandMayLeave g limit state command item.body furthest
      → SessionComesTo g limit first (items ++ item ∷ []) furthest

-- The item asks for a node. These outcomes came of the tools, at calls at which its derivation stopped by the sources and the calls that are
-- held then; and the call is one of the node, whatever else comes to be known than what is kept and what came.
pub record IsCallOfAsk (g : Graph) (old : SessionState) (item : Item) (call : Call) : Type 0 where
  pub text : Text
  pub is : IsItem commands item (Ask text)
  pub node : Node
  pub asks : answers.Asks g text node
  pub given : Calls
  pub came : HaveCome old.tools.answer given
  pub are : AreGiven g old.held.sources (kept_outcome old.held.calls) node given
  pub from : (outcomes : Outcomes) → Agrees old.held.calls given outcomes → IsCallFrom g (derived g old.held.sources outcomes) node call

-- It is one of an ask among these items.
pub record ComesOfAsk (g : Graph) (limit : ℕ) (first : SessionState) (items : List Item) (call : Call) : Type 0 where
  pub front : List Item
  pub item : Item
  pub rest : List Item
  pub cuts : items ≡ front ++ item ∷ rest
  pub replies : List (List ℕ)
  pub old : SessionState
  pub run : Transcript commands (Step g limit) first front replies old
  pub is : IsCallOfAsk g old item call

-- A call was kept at the start, or is one of an ask.
abbrev pub IsOurs : Graph → ℕ → SessionState → List Item → Call → Type 0
IsOurs g limit first items call = IsSome (kept_outcome first.held.calls call) ⊎ ComesOfAsk g limit first items call

-- By a table it is one of a node of an ask among these items: by the sources that are held then, with nothing kept.
pub record ComesByTable (g : Graph) (limit : ℕ) (first : SessionState) (items : List Item) (table : Table) (call : Call) : Type 0 where
  pub ask : ComesOfAsk g limit first items call
  pub from : IsCallFrom g (derived g ask.old.held.sources (table_outcomes table)) ask.is.node call

-- The image stands for what the first of the changes made, at least so many of them. Each call that it keeps is ours; and where the tools
-- answer by a table it is ours by the table, and has the outcome that the table gives. What it has of nodes is true where it was at the start.
pub record HoldsOurs (g : Graph) (limit : ℕ) (first : SessionState) (items : List Item) (furthest : SessionState) (least : ℕ) (image : List ℕ) : Type 0 where
  pub held : Held
  pub stands : StandsFor held image
  pub count : ℕ
  pub at_least : least ≤ count
  pub is : held ≡ after_changes store_keeping (take count furthest.changes) first.held
  pub calls : (call : Call) → IsSome (kept_outcome held.calls call) → IsOurs g limit first items call
  pub table_calls : (table : Table) → IsTrueFor table first.tools first.held.calls → (call : Call) → IsSome (kept_outcome held.calls call)
      → IsSome (kept_outcome first.held.calls call) ⊎ ComesByTable g limit first items table call
  pub right : (table : Table) → IsTrueFor table first.tools first.held.calls → HasMore (kept_outcome held.calls) (table_outcomes table)
  pub records : RecordsAreTrue g first.held → RecordsAreTrue g held

module _ {D : Type 0} (disk : DiskView D) where
  -- At an exit of a session that began with no change, over a disk on which nothing was pending: an image that a crash since the start may
  -- have left, and one that a crash may leave now, with all that is acknowledged.
  pub record LeavesOurs (g : Graph) (limit : ℕ) (first : SessionState) (items : List Item) (start : Told D) (acknowledged furthest : SessionState) (now : Told D) : Type 0 where
    pub since : (image : List ℕ) → (disk.told now.disk).left_since (disk.told start.disk).moment image → HoldsOurs g limit first items furthest 0 image
    pub left : (image : List ℕ) → MayBeLeft (disk.told now.disk) image → HoldsOurs g limit first items furthest (length acknowledged.changes) image

  abbrev pub ImagesHoldOurs : Type 0
  ImagesHoldOurs =
      (g : Graph) (limit : ℕ) (text : Text) (first : SessionState) (items : List Item) (start : Told D) (acknowledged furthest : SessionState) (now : Told D)
      → first.changes ≡ [] → IsQuiet (disk.told start.disk) → SessionComesTo g limit first items furthest
      → StateAtExit disk g text limit first start acknowledged furthest now → LeavesOurs g limit first items start acknowledged furthest now
