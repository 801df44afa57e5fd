-- One command: its change and its reply, over every history that fits before it.
use Rattle.std.specs.Prelude.{◌≡◌, ◌+◌, ◌≤◌, ◌^◌, ℕ, List, [], None}
use Rattle.odin_outside.specs.Causes.{IsCounted}
use Rattle.odin_outside.specs.Spawned.{Spawned}
use Rattle.meaning_graph.specs.Graphs.{Text, Graph}
use Rattle.meaning_commands.specs.Items.{SameBody}
use Rattle.meaning_commands.specs.Objects.{SinkTold}
use Rattle.odin_bytes.specs.declared.commands.Command.{Command}
use Rattle.odin_bytes.specs.declared.commands.Command.TheVariants.{Ask}
use Rattle.odin_journal.specs.Rest.{IsReady}
use Rattle.odin_journal.specs.declared.fault.JournalFault.{JournalFault}
use Rattle.odin_store.specs.Held.{Held}
use Rattle.kept_derive.specs.Knowing.{RecordsAreTrue}
use Rattle.odin_engine.specs.Engaged.{Engaged}
use Rattle.odin_answers.specs.Edits.{TreeTold}
use Rattle.odin_shell.specs.declared.stop.Stop.{Stop}
use Rattle.odin_shell.specs.declared.stop.Stop.TheVariants as stop
use Rattle.odin_shell.specs.Endings.{stop_of}
use Rattle.odin_outside.specs.declared.disk.Disk.{Ghosts as DiskView}
use Rattle.odin_shell.specs.Language.{commands}
use Rattle.odin_shell.specs.Machine.{SessionState, Told, StepIf, CommandMayLeaveIf, SessionInvariant, StateAtExit, told_with_stop}

-- all that is told between two commands
abbrev pub telling : {D : Type 0} → SinkTold → Spawned → TreeTold → D → Told D
telling sink tools tree disk = record { sink = sink; tools = tools; tree = tree; disk = disk; over = None }

-- So many commands may be served: the store can be changed, the count of its edits has room for them, and no tool runs.
pub record MayServe (most : ℕ) (code : Engaged) (size : ℕ) (tools : Spawned) : Type 0 where
  pub ready : IsReady code.store.journal size
  pub early : code.store.epoch + most ≤ 2 ^ 63
  pub idle : tools.running ≡ []

-- At most so many edits were made, and more can be; no fault of the disk was counted.
pub record IsOnward {D : Type 0} (disk : DiskView D) (most : ℕ) (old new : Engaged) (before after : D) : Type 0 where
  pub epoch : new.store.epoch ≤ old.store.epoch + most
  pub ready : IsReady new.store.journal (disk.size_of after)
  pub faults : disk.faults after ≡ disk.faults before

-- the count of the disk's faults rises where it is why the serving stopped
abbrev pub CountsStop : Stop → ℕ → ℕ → Type 0
CountsStop stop.Disk before after = IsCounted before after
CountsStop other before after = after ≡ before

module _ {D : Type 0} (disk : DiskView D) where
  -- The command with the bytes that were kept of it gets this reply, and what comes after it fits; and it may be left before that.
  pub record HasStepped (from : Held) (g : Graph) (text : Text) (limit : ℕ) (first : SessionState) (start : Told D) (state : SessionState) (command : Command) (body reply : List ℕ) (code : Engaged) (now : Told D) : Type 0 where
    pub new : SessionState
    pub step : StepIf (RecordsAreTrue g from) g limit state command body reply new
    pub fits : SessionInvariant disk from g text limit first start code new now
    pub left : StateAtExit disk g text limit first start state new now

  abbrev pub Answers : Engaged → Command → List ℕ → Told D → List ℕ → Engaged → Told D → Type 0
  Answers code command kept told reply code' told' =
      (from : Held) (g : Graph) (text : Text) (limit : ℕ) (first : SessionState) (start : Told D) (state : SessionState) (body : List ℕ) → SameBody commands command body kept
      → SessionInvariant disk from g text limit first start code state told → HasStepped from g text limit first start state command body reply code' told'

  -- The command gets no reply, for a fault of the store or for want of memory, and this may be left of it.
  pub record HasHalted (from : Held) (g : Graph) (text : Text) (limit : ℕ) (first : SessionState) (start : Told D) (state : SessionState) (command : Command) (body : List ℕ) (now : Told D) : Type 0 where
    pub furthest : SessionState
    pub may : CommandMayLeaveIf (RecordsAreTrue g from) g limit state command body furthest
    pub exit : StateAtExit disk g text limit first start state furthest now

  abbrev pub HaltsCommand : Engaged → Command → List ℕ → Told D → JournalFault → Told D → Type 0
  HaltsCommand code command kept told why told' =
      (from : Held) (g : Graph) (text : Text) (limit : ℕ) (first : SessionState) (start : Told D) (state : SessionState) (body : List ℕ) → SameBody commands command body kept
      → SessionInvariant disk from g text limit first start code state told → HasHalted from g text limit first start state command body (told_with_stop (stop_of why) told')

  -- ---- the object of a text, whatever was kept of the command, and whatever is told of sink and tree

  abbrev pub AnswersAsk : Engaged → Text → Spawned → D → List ℕ → Engaged → Spawned → D → Type 0
  AnswersAsk code query tools now reply code' tools' now' =
      (kept : List ℕ) (sink : SinkTold) (tree : TreeTold) → Answers code (Ask query) kept (telling sink tools tree now) reply code' (telling sink tools' tree now')

  abbrev pub HaltsAsk : Engaged → Text → Spawned → D → JournalFault → Spawned → D → Type 0
  HaltsAsk code query tools now why tools' now' =
      (kept : List ℕ) (sink : SinkTold) (tree : TreeTold) → HaltsCommand code (Ask query) kept (telling sink tools tree now) why (telling sink tools' tree now')
