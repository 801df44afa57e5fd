-- A whole load: what it tells, and why it ends before.
use Rattle.std.specs.Prelude.{◌≡◌, ◌⊎◌, ⊤, ℕ, ◌+◌, ◌*◌, ◌<◌, List, [], ◌∷◌, ◌++◌, length, Some}
use Rattle.odin_memory.specs.declared.answers.Answers.TheVariants.{Toys}
use Rattle.odin_memory.specs.Tools as tools
use Rattle.dg_reader.specs.Files.{IsRead}
use Rattle.meaning_graph.specs.Graphs.{Graph}
use Rattle.meaning_records.specs.Tables.{Calls}
use Rattle.object_values.specs.declared.replies.Reply.{Reply}
use Rattle.odin_journal.specs.declared.fault.JournalFault.{JournalFault}
use Rattle.odin_journal.specs.declared.fault.JournalFault.TheVariants as fault
use Rattle.meaning_records.specs.States.{State}
use Rattle.odin_store.specs.Held.{Change}
use Rattle.odin_store.specs.OnDisk.{state_in}
use Rattle.odin_store.specs.Opening.{graph_record, OpensQuietStore}
use Rattle.odin_store.specs.Written.{written_in}
use Rattle.odin_store.specs.Going.{AreBatches, IsPartialBatch}
use Rattle.load_session.specs.declared.loaded.Loaded.{Loaded}
use Rattle.load_session.specs.Graph.{graph_text}
use Rattle.load_session.specs.Room.{most_bytes, most_calls, empty_disk, told_of_disk}
use Rattle.load_session.specs.Session.{load_steps}
use Rattle.load_session.specs.Served.{Moment, ServesSteps, StopsAtStep, changes_of, failed_changes, shown_length}

-- The graph is that of the text, and its store was opened over the empty disk and tools that did nothing yet.
pub record LoadIsOpened (g : Graph) (now : Moment) : Type 0 where
  pub read : IsRead graph_text g
  pub opened : OpensQuietStore graph_text (told_of_disk empty_disk) (told_of_disk now.disk) now.store
  pub tools_are : now.tools ≡ tools.tools_view (tools.new_tools Toys [])

-- The store was opened, all steps were served, and this is told of the three asks.
pub record LoadIsServed (units : ℕ) (loaded : Loaded) : Type 0 where
  pub graph : Graph
  pub start : Moment
  pub opened : LoadIsOpened graph start
  pub first : Calls × Reply
  pub second : Calls × Reply
  pub third : Calls × Reply
  pub end : Moment
  pub serves : ServesSteps graph start (load_steps units) (first ∷ second ∷ third ∷ []) end
  pub starts : loaded.starts ≡ length first.0 ∷ length second.0 ∷ length third.0 ∷ []
  pub length_is : loaded.length ≡ shown_length third.1
  pub kept : loaded.kept ≡ length (first.0 ++ second.0 ++ third.0)
  pub all : end.store.kept.tables.calls ≡ first.0 ++ second.0 ++ third.0

-- Why a store is not opened over the empty disk: want of memory alone, since an empty file is a store's, and there is room for the graph.
abbrev pub IsOpeningFault : JournalFault → Type 0
IsOpeningFault fault.Memory = ⊤
IsOpeningFault other = ⊥

-- The store was opened, and a step failed for this fault.
pub record LoadFails (units : ℕ) (fault : JournalFault) : Type 0 where
  pub graph : Graph
  pub start : Moment
  pub opened : LoadIsOpened graph start
  pub stops : StopsAtStep graph start (load_steps units) fault

-- After what an opening writes, the batch of the graph, those of some first ones of these changes and one that was begun pass the room
-- of the disk: a record takes its payload, 6 bytes and four calls.
pub record PassesWith (opened : State) (changes : List Change) : Type 0 where
  pub made : List Change
  pub rest : List Change
  pub whole : changes ≡ made ++ rest
  pub payloads : List (List ℕ)
  pub last : State
  pub are : AreBatches opened made payloads last
  pub begun : List (List ℕ)
  pub next : IsPartialBatch last.tables.contents rest begun
  pub over : (most_bytes < 66 + written_in (graph_record graph_text ∷ payloads ++ begun)) ⊎ (most_calls < 16 + 4 * length (graph_record graph_text ∷ payloads ++ begun))

-- The store was opened, and a step failed at a batch for which the disk has no more room.
pub record LoadPasses (units : ℕ) : Type 0 where
  pub graph : Graph
  pub start : Moment
  pub opened : LoadIsOpened graph start
  pub stops : StopsAtStep graph start (load_steps units) fault.Disk
  pub past : PassesWith (state_in start.store (Some graph_text) [])
      (changes_of graph start stops.served stops.answers stops.mid stops.serves ++ failed_changes graph stops.step stops.mid stops.new stops.fails)

-- Want of memory says nothing, and the file is always the store's own.
abbrev pub IsLoadFault : ℕ → JournalFault → Type 0
IsLoadFault units fault.Disk = LoadPasses units
IsLoadFault units (fault.NotOurs at) = ⊥
IsLoadFault units (fault.Full at size) = LoadFails units (fault.Full at size)
IsLoadFault units fault.Memory = ⊤
