-- How a run ends: what it has read and written by then, what its tools and the tree did, what its file has, and which count of faults rose.
--
-- A run works in four parts, one after another: its words, the graph in the file that they name, the store, and the session over them. Each
-- way to end is a constructor of `EndsAs`, or a case of `SessionLeaves`, which `EndsAs` has in it.
use Rattle.std.specs.Prelude.{◌≡◌, ⊤, ℕ, ◌+◌, ◌<◌, ◌≤◌, ◌⊎◌, List, [], length, take, Option, Some, None, IfSome}
use Rattle.odin_outside.specs.Causes.{IsCounted}
use Rattle.odin_outside.specs.Disk.{Telling}
use Rattle.odin_outside.specs.Files.{IsGiven}
use Rattle.odin_journal.specs.Faults.{CountAfterJournalFault}
use Rattle.odin_journal.specs.Moments.{Works}
use Rattle.odin_journal.specs.declared.fault.JournalFault.{JournalFault}
use Rattle.odin_journal.specs.declared.fault.JournalFault.TheVariants as fault
use Rattle.meaning_graph.specs.Graphs.{Text, Graph}
use Rattle.meaning_commands.specs.Objects.{SinkTold, took, TookPart}
use Rattle.meaning_commands.specs.Items.{EndsInside, SaysEnd}
use Rattle.meaning_commands.specs.Endings.{input_limit, HasRead, EndsWhole, EndsCutShort, EndsUnread, EndsAtLimit, EndsBeforeReply, EndsWithinReply, EndsAtWord}
use Rattle.odin_store.specs.Held.{Held}
use Rattle.odin_store.specs.Opening as store
use Rattle.odin_engine.specs.Opened.{IsEngineOpenFault, LeavesEngineOpening}
use Rattle.odin_shell.specs.declared.ending.Ending.{Ending}
use Rattle.odin_shell.specs.declared.ending.Ending.TheVariants.{Whole, CutShort, BadGraph, Disk, Memory, Output, Input, NotOurs, Full, Usage, TooLong, Loaded, Room}
use Rattle.odin_shell.specs.Endings.{ending_status, EndingLeavesTools}
use Rattle.odin_words.specs.Asked.{AsksFor, IsNotAccepted, Serve, Load}
use Rattle.load_session.specs.declared.loaded.Loaded.{Loaded as Counts}
use Rattle.load_session.specs.Loads.{LoadIsServed, IsLoadFault}
use Rattle.odin_shell.specs.Words.{usage_line}
use Rattle.odin_shell.specs.Loading.{load_lines}
use Rattle.odin_shell.specs.Opened.{ReadsAsGraph, GraphIsRefused, not_ours_line, full_line}
use Rattle.odin_shell.specs.Language.{commands}
use Rattle.odin_outside.specs.declared.disk.Disk.{Ghosts as DiskView}
use Rattle.odin_shell.specs.Filed.{StartsFrom}
use Rattle.odin_answers.specs.Edits.{TreeTold, TreeIsAsked, tree_of}
use Rattle.odin_shell.specs.Machine.{at_first, Told, machine}
use Rattle.odin_shell.specs.Objects.{SourceTold, source_of, sink_of, Outside, Views}

-- ---- a last line

-- A last line is written where an ending is due; where it can't be written whole the run ends by the failed output.
pub data LastLine (line : Text) (due : Ending) (before now : SinkTold) : Ending → Type 0 where
  whole : now ≡ took before line → LastLine line due before now due
  cut_off : TookPart line before now → LastLine line due before now Output

-- ---- a session

-- What a session has read of its input and written, from what its file stood for at the start, what its tools and the tree did, and what
-- its file has, by the way it ended. At 0 its input was read to the end, or up to the command that ends the run.
abbrev pub SessionLeaves : {D : Type 0} → DiskView D → Graph → Text → ℕ → Held → Ending → Option (List ℕ) → Option (List ℕ) → Told D → Told D → Type 0
SessionLeaves disk g text limit held Whole input left start now =
    HasRead (EndsWhole commands (machine disk held g text limit) (at_first held start.tools start.tree) start now) input left
    ⊎ HasRead (EndsAtWord commands (machine disk held g text limit) (at_first held start.tools start.tree) start now) input left
SessionLeaves disk g text limit held CutShort input left start now = HasRead (EndsCutShort commands (machine disk held g text limit) (at_first held start.tools start.tree) start now) input left
SessionLeaves disk g text limit held Disk input left start now = HasRead (EndsBeforeReply commands (machine disk held g text limit) (at_first held start.tools start.tree) start now) input left
SessionLeaves disk g text limit held Memory input left start now = HasRead (EndsBeforeReply commands (machine disk held g text limit) (at_first held start.tools start.tree) start now) input left
SessionLeaves disk g text limit held Output input left start now = HasRead (EndsWithinReply commands (machine disk held g text limit) (at_first held start.tools start.tree) start now) input left
SessionLeaves disk g text limit held Input input left start now = HasRead (EndsUnread commands (machine disk held g text limit) (at_first held start.tools start.tree) start now) input left
SessionLeaves disk g text limit held (Full at size) input left start now =
    HasRead (EndsBeforeReply commands (machine disk held g text limit) (at_first held start.tools start.tree) start (record now { over = Some (at, size) })) input left
SessionLeaves disk g text limit held TooLong input left start now = HasRead (EndsAtLimit commands (machine disk held g text limit) (at_first held start.tools start.tree) start now) input left
SessionLeaves disk g text limit held other input left start now = ⊥

-- the count of the input's faults rises at this ending alone
abbrev pub InputCount : Ending → ℕ → ℕ → Type 0
InputCount Input before now = IsCounted before now
InputCount other before now = now ≡ before

-- and that of the disk's at this
abbrev pub DiskCount : Ending → ℕ → ℕ → Type 0
DiskCount Disk before now = IsCounted before now
DiskCount other before now = now ≡ before

-- A session over a graph ended so, from what its file stood for, with at most so many tools at once. None runs then, but where what runs is
-- left.
pub record SessionEnds {D : Type 0} (disk : DiskView D) (g : Graph) (text : Text) (limit : ℕ) (input left : SourceTold) (start now : Told D) (ending : Ending) : Type 0 where
  pub held : Held
  pub starts : StartsFrom text (disk.told start.disk) held
  pub leaves : SessionLeaves disk g text limit held ending input.left left.left start now
  pub read : InputCount ending input.faults left.faults
  pub counted : DiskCount ending (disk.faults start.disk) (disk.faults now.disk)
  pub idle : ¬ EndingLeavesTools ending → now.tools.running ≡ []

-- A last line where this ending is due, or want of memory before it.
abbrev pub SaysLastLine : Text → Ending → SinkTold → SinkTold → Ending → Type 0
SaysLastLine line due before now ending = LastLine line due before now ending ⊎ ((now ≡ before) × (ending ≡ Memory))

-- What a session leaves to be written: its last line, where the file is full.
abbrev pub Closes : Ending → SinkTold → SinkTold → Ending → Type 0
Closes (Full at size) before now ending = SaysLastLine (full_line at size) (Full at size) before now ending
Closes due before now ending = (now ≡ before) × (ending ≡ due)

-- What is written where the store was not opened for this fault.
abbrev pub ClosesFor : JournalFault → SinkTold → SinkTold → Ending → Type 0
ClosesFor fault.Disk before now ending = (now ≡ before) × (ending ≡ Disk)
ClosesFor (fault.NotOurs at) before now ending = SaysLastLine (not_ours_line at) (NotOurs at) before now ending
ClosesFor (fault.Full at size) before now ending = SaysLastLine (full_line at size) (Full at size) before now ending
ClosesFor fault.Memory before now ending = (now ≡ before) × (ending ≡ Memory)

-- ---- a load session

-- What is written where a load session failed so. Where its own disk has no more room nothing is. Its file is a store's.
abbrev pub ClosesLoad : JournalFault → SinkTold → SinkTold → Ending → Type 0
ClosesLoad fault.Disk before now ending = (now ≡ before) × (ending ≡ Room)
ClosesLoad (fault.NotOurs at) before now ending = ⊥
ClosesLoad (fault.Full at size) before now ending = SaysLastLine (full_line at size) (Full at size) before now ending
ClosesLoad fault.Memory before now ending = (now ≡ before) × (ending ≡ Memory)

-- A load session of so many units was served, and its lines are due; or it failed.
pub data LoadEnds (units : ℕ) (before now : SinkTold) (ending : Ending) : Type 0 where
  load_served : (loaded : Counts) → LoadIsServed units loaded → SaysLastLine (load_lines units loaded) Loaded before now ending → LoadEnds units before now ending
  load_failed : (fault : JournalFault) → IsLoadFault units fault → ClosesLoad fault before now ending → LoadEnds units before now ending

-- ---- what every way to end says

-- the bytes of an input that may be read say that the run ends
abbrev pub SaysQuit : List ℕ → Type 0
SaysQuit input = SaysEnd commands (take input_limit input)

-- Whether an input ends inside a command, whether it is too long, and whether it says before that that the run ends, tell 0, 1 and 10
-- apart.
abbrev pub AllowedBy : Ending → List ℕ → Type 0
AllowedBy Whole input = (¬ EndsInside commands input) × ((length input < input_limit) ⊎ SaysQuit input)
AllowedBy CutShort input = (length input < input_limit) × EndsInside commands input
AllowedBy TooLong input = (input_limit ≤ length input) × (¬ SaysQuit input)
AllowedBy other input = ⊤

-- the count of the output's faults rises at this ending alone
abbrev pub OutputCount : Ending → ℕ → ℕ → Type 0
OutputCount Output before now = IsCounted before now
OutputCount other before now = now ≡ before

-- ---- a store, and the session over it

module _ {I O T S D : Type 0} (m : Views I O T S D) where
  abbrev pub source : Outside I O T S D → SourceTold
  source o = source_of m.source o.input

  abbrev pub sink : Outside I O T S D → SinkTold
  sink o = sink_of m.sink o.output

  abbrev pub tree : Outside I O T S D → TreeTold
  tree o = tree_of m.tree o.tree

  abbrev pub disk : Outside I O T S D → Telling
  disk o = m.disk.told o.disk

  -- what is told of the objects of a session
  abbrev pub told : Outside I O T S D → Told D
  told o = record { sink = sink o; tools = m.tools.told o.tools; tree = tree o; disk = o.disk; over = None }

  -- The store was not opened for this fault: a crash leaves the records that the file had, or, where it was due, the batch of the graph after
  -- them, or, where it was wasteful, the live ones, and so what the file stood for. Over an empty file the work is that of a new store and of that
  -- batch at most.
  pub record IsUnopened (text : Text) (before after : Outside I O T S D) (fault : JournalFault) : Type 0 where
    pub refused : IsEngineOpenFault m.disk.told text before.disk after.disk fault
    pub crash : LeavesEngineOpening m.disk.told text before.disk after.disk
    pub later : m.disk.faults before.disk ≤ m.disk.faults after.disk
    pub cause : CountAfterJournalFault (m.disk.faults before.disk) (m.disk.faults after.disk) fault
    pub works : m.disk.size_of before.disk ≡ 0 → Works (72 + length (store.graph_record text)) 20 (disk before) (disk after)

  -- Each way to end over the text of a graph, with at most so many tools at once.
  pub data StoreEnds (text : Text) (g : Graph) (limit : ℕ) (before after : Outside I O T S D) (ending : Ending) : Type 0 where
    -- the store was not opened, and nothing else was done but that its last line was written
    unopened : (fault : JournalFault) → IsUnopened text before after fault → ClosesFor fault (sink before) (sink after) ending
        → after ≡ record before { output = after.output; disk = after.disk } → StoreEnds text g limit before after ending
    -- a session was served over the graph and what the file stood for
    served : (due : Ending) (written : SinkTold) → SessionEnds m.disk g text limit (source before) (source after) (told before) (record (told after) { sink = written }) due
        → Closes due written (sink after) ending → StoreEnds text g limit before after ending

-- ---- a run

module _ {I O T S D : Type 0} (m : Views I O T S D) (words : List Text) (before after : Outside I O T S D) where
  abbrev InputRose : Type 0
  InputRose = IsCounted (m.source.faults before.input) (m.source.faults after.input)

  abbrev InputStayed : Type 0
  InputStayed = m.source.faults after.input ≡ m.source.faults before.input

  -- ---- what the tree told after the reading of the graph

  abbrev GraphRose : TreeTold → Type 0
  GraphRose opened = IsCounted (m.tree.faults before.tree) opened.faults

  abbrev GraphStayed : TreeTold → Type 0
  GraphStayed opened = opened.faults ≡ m.tree.faults before.tree

  -- The words ask for the file of a graph, and the tree was asked for it.
  pub record AsksOnce (opened : TreeTold) : Type 0 where
    pub name : Text
    pub jobs : ℕ
    pub named : AsksFor words (Serve name) jobs
    pub asked : TreeIsAsked (tree m before) opened

  -- The tree gave this of the file.
  pub record TreeGives (opened : TreeTold) (given : Option Text) : Type 0 where
    pub asks : AsksOnce opened
    pub is : IsGiven (m.tree.files before.tree) asks.name given
    pub unfailed : GraphStayed opened

  -- The tree gave the text of a checked graph.
  pub record GivesGraph (opened : TreeTold) (text : Text) (g : Graph) : Type 0 where
    pub given : Option Text
    pub gives : TreeGives opened given
    pub reads : ReadsAsGraph given text g

  -- Each way to end, from what the tree told after the reading of the graph. What isn't named in `after ≡ ..` is as it was.
  pub data EndsAs (opened : TreeTold) (ending : Ending) : Type 0 where
    -- the words are refused, by the usage line
    words_refused : IsNotAccepted words → LastLine usage_line Usage (sink m before) (sink m after) ending → opened ≡ tree m before → after ≡ record before { output = after.output } → EndsAs opened ending
    -- memory was wanted while the words were read
    words_unread : ending ≡ Memory → opened ≡ tree m before → after ≡ before → EndsAs opened ending
    -- the words ask for a load session, which ended so: nothing was read, and nothing written but its lines
    load_ended : (units jobs : ℕ) → AsksFor words (Load units) jobs → LoadEnds units (sink m before) (sink m after) ending → opened ≡ tree m before → after ≡ record before { output = after.output } → EndsAs opened ending
    -- the tree failed
    tree_failed : ending ≡ Input → AsksOnce opened → GraphRose opened → opened ≡ tree m after → after ≡ record before { tree = after.tree } → EndsAs opened ending
    -- memory was wanted before the graph was read
    graph_unread : ending ≡ Memory → AsksOnce opened → GraphStayed opened → opened ≡ tree m after → after ≡ record before { tree = after.tree } → EndsAs opened ending
    -- the file is refused, by this line
    graph_refused : (given : Option Text) (line : Text) → TreeGives opened given → GraphIsRefused given line → LastLine line BadGraph (sink m before) (sink m after) ending
        → opened ≡ tree m after → after ≡ record before { output = after.output; tree = after.tree } → EndsAs opened ending
    -- the file is one of this graph, and the run ended over it, with as many tools at once as the words ask for
    graph_read : (text : Text) (g : Graph) (mid : Outside I O T S D) → (given : GivesGraph opened text g) → mid ≡ record before { tree = mid.tree } → opened ≡ tree m mid
        → StoreEnds m text g given.gives.asks.jobs mid after ending → EndsAs opened ending

  -- the input's count rose, or the tree's while the graph was read; and neither at any other ending
  abbrev pub ReadCounts : TreeTold → Ending → Type 0
  ReadCounts opened Input = (InputRose × GraphStayed opened) ⊎ (InputStayed × GraphRose opened)
  ReadCounts opened other = InputStayed × GraphStayed opened

  -- The run ended so.
  pub record Ended (ending : Ending) : Type 0 where
    pub opened : TreeTold
    pub how : EndsAs opened ending

  -- The run ended with this status: how, what its input says of it, and which count of faults rose.
  pub record RunEnds (status : ℕ) : Type 0 where
    pub ending : Ending
    pub status_is : status ≡ ending_status ending
    pub ended : Ended ending
    pub exact : IfSome (m.source.left before.input) (AllowedBy ending)
    pub output : OutputCount ending (m.sink.faults before.output) (m.sink.faults after.output)
    pub reads : ReadCounts ended.opened ending
    pub disk : DiskCount ending (m.disk.faults before.disk) (m.disk.faults after.disk)
