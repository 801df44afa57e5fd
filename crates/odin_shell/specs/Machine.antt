-- The machine of a session: what each command replies, what the outside does for it, and what is held after it.
use Rattle.std.specs.Prelude.{◌≡◌, ◌≢◌, ◌⊎◌, ⊤, ℕ, ◌≤◌, List, [], ◌∷◌, ◌++◌, length, Option, Some, None}
use Rattle.odin_outside.specs.Causes.{Rose}
use Rattle.odin_outside.specs.Disk.{IsQuiet}
use Rattle.odin_outside.specs.Spawned.{Spawned}
use Rattle.odin_journal.specs.Trails.{Trail, after_changes}
use Rattle.object_values.specs.Texts.{Texts}
use Rattle.meaning_graph.specs.Graphs.{Text, Graph}
use Rattle.object_values.specs.declared.facts.Fact.{Fact}
use Rattle.meaning_records.specs.Tables.{Calls, kept_outcome}
use Rattle.meaning_commands.specs.Objects.{SinkTold}
use Rattle.meaning_commands.specs.Machines.{Machine, Halt, before_reply, within_reply, behind_reply}
use Rattle.meaning_derive.specs.Answers as answers
use Rattle.odin_journal.specs.Rest.{IsReady}
use Rattle.odin_store.specs.Held.{Held, Change, puts, drops, IsDue}
use Rattle.odin_outside.specs.Files.{IsGiven}
use Rattle.meaning_texts.specs.Limits.{body_limit}
use Rattle.odin_store.specs.OnDisk.{held_in}
use Rattle.odin_store.specs.Keeping.{store_keeping}
use Rattle.odin_engine.specs.Engaged.{Engaged}
use Rattle.derive_walk.specs.Outcomes.{after}
use Rattle.kept_derive.specs.Knowing.{AreTrueBeside, RecordsAreTrue, KnowsStore}
use Rattle.kept_derive.specs.Runs.{changes_for}
use Rattle.odin_answers.specs.Answers.{IsReplyIf, IsRecordedFor, MayHaveBegunWith}
use Rattle.odin_bytes.specs.declared.commands.Command.{Command}
use Rattle.odin_bytes.specs.declared.commands.Command.TheVariants.{Put, Take, Remove, Ask, Plan, Sources, Kept, Quit, Nothing, Bad, BadName}
use Rattle.object_values.specs.declared.replies.Reply.{Reply}
use Rattle.object_values.specs.declared.replies.Reply.TheVariants as reply
use Rattle.meaning_commands.specs.Replies.{reply_text}
use Rattle.odin_shell.specs.declared.stop.Stop.{Stop}
use Rattle.odin_shell.specs.declared.stop.Stop.TheVariants as stop
use Rattle.odin_outside.specs.declared.disk.Disk.{Ghosts as DiskView}
use Rattle.odin_shell.specs.Filed.{HasWritten, HoldsAll, LacksLast, HasNoRoomForLast, IsSafe}
use Rattle.odin_answers.specs.Edits.{SaysReply, TreeTold, TreeStays, TreeIsAsked, Puts, Takes, Removes, source_lines}
use Rattle.odin_answers.specs.Changes.{edit_changes}

-- What is held: the sources, and the calls that are kept; the changes since the start that made it so; and what is told of the tools and
-- of the tree.
pub record SessionState : Type 0 where
  pub held : Held
  pub changes : List Change
  pub tools : Spawned
  pub tree : TreeTold

-- with no change yet
abbrev pub at_first : Held → Spawned → TreeTold → SessionState
at_first held tools tree = record { held = held; changes = []; tools = tools; tree = tree }

-- What is told of the sink, of the tools and of the tree, and the disk itself. Where the session stopped at a batch that doesn't fit, the two
-- numbers that tell it: where the records end, and how long it is.
pub record Told (Disk : Type 0) : Type 0 where
  pub sink : SinkTold
  pub tools : Spawned
  pub tree : TreeTold
  pub disk : Disk
  pub over : Option (ℕ × ℕ)

-- ---- commands

-- These changes are made of what is held, and no others.
pub record Applies (changes : List Change) (old new : SessionState) : Type 0 where
  pub held : new.held ≡ after_changes store_keeping changes old.held
  pub list : new.changes ≡ old.changes ++ changes

-- A reply of which this holds, and no change but that of this source.
pub record EditsByCommand (name : Text) (P : Reply → Texts → Type 0) (old : SessionState) (bytes : List ℕ) (new : SessionState) : Type 0 where
  pub says : SaysReply (λ said. P said new.held.sources) bytes
  pub makes : Applies (edit_changes name old.held.sources new.held.sources) old new
  pub tools : new.tools ≡ old.tools
  pub tree : new.tree ≡ old.tree

-- The tree is asked for a file.
pub record EditsByFile (name : Text) (old : SessionState) (bytes : List ℕ) (new : SessionState) : Type 0 where
  pub says : SaysReply (λ said. Takes old.held.sources name old.tree said new.held.sources new.tree) bytes
  pub makes : Applies (edit_changes name old.held.sources new.held.sources) old new
  pub asked : TreeIsAsked old.tree new.tree
  pub tools : new.tools ≡ old.tools

-- The text is refused, or, where this holds, that is the reply, and the node of an object has a record then.
pub record IsAskReply (trust : Type 0) (g : Graph) (limit : ℕ) (text : Text) (old : SessionState) (given : Calls) (new : SessionState) (said : Reply) : Type 0 where
  pub is : IsReplyIf trust g old.held.sources old.held.calls limit text said given old.tools new.tools
  pub recorded : trust → IsRecordedFor g old.held.sources (after (kept_outcome old.held.calls) given) text said new.held.records

-- Where this holds, the object of a text is answered as it is derived from the present sources with nothing kept; it may be refused where the count of
-- the tools' faults rose. Tools run only as its derivation calls them, as many at once as may. Each outcome is kept, and what is noted after them is true.
pub record AsksForObject (trust : Type 0) (g : Graph) (limit : ℕ) (text : Text) (old : SessionState) (bytes : List ℕ) (new : SessionState) : Type 0 where
  pub given : Calls
  pub noted : List Fact
  pub says : SaysReply (IsAskReply trust g limit text old given new) bytes
  pub makes : Applies (changes_for given noted) old new
  pub truth : trust → AreTrueBeside g (kept_outcome new.held.calls) noted
  pub tree : new.tree ≡ old.tree

-- A reply of which this holds, and no change.
pub record Shows (P : Reply → Type 0) (old : SessionState) (bytes : List ℕ) (new : SessionState) : Type 0 where
  pub says : SaysReply P bytes
  pub same : new ≡ old

-- this reply, and no change
abbrev pub Replies : Reply → SessionState → List ℕ → SessionState → Type 0
Replies said old bytes new = (bytes ≡ reply_text said) × (new ≡ old)

-- From the old state the command with these bytes after its line gets this reply, and the new state comes after it. So many tools may run at
-- once. What is answered to an ask is said where this holds.
abbrev pub StepIf : Type 0 → Graph → ℕ → SessionState → Command → List ℕ → List ℕ → SessionState → Type 0
StepIf trust g limit old (Put name count) body bytes new = EditsByCommand name (Puts old.held.sources name count body) old bytes new
StepIf trust g limit old (Take name) body bytes new = EditsByFile name old bytes new
StepIf trust g limit old (Remove name) body bytes new = EditsByCommand name (Removes old.held.sources name) old bytes new
StepIf trust g limit old (Ask text) body bytes new = AsksForObject trust g limit text old bytes new
StepIf trust g limit old (Plan text) body bytes new = Shows (answers.Plan g text) old bytes new
StepIf trust g limit old Sources body bytes new = Replies (reply.Sources (source_lines old.held.sources)) old bytes new
StepIf trust g limit old Kept body bytes new = Replies (reply.Kept (length old.held.calls)) old bytes new
StepIf trust g limit old Quit body bytes new = Replies reply.Bye old bytes new
StepIf trust g limit old Nothing body bytes new = (bytes ≡ []) × (new ≡ old)
StepIf trust g limit old Bad body bytes new = Replies reply.RefusedCommand old bytes new
StepIf trust g limit old (BadName count) body bytes new = Replies reply.RefusedName old bytes new

-- the same where it does
abbrev pub Step : Graph → ℕ → SessionState → Command → List ℕ → List ℕ → SessionState → Type 0
Step = StepIf ⊤

-- ---- commands without a reply

-- the change of a `put` without a reply, and of a `take`: with a text that isn't too long
abbrev pub IsPutChange : Text → ℕ → Text → Change → Type 0
IsPutChange name count body change = (count ≤ body_limit) × (change ≡ puts name body)

abbrev pub IsTakeChange : Text → TreeTold → Change → Type 0
IsTakeChange name tree change = (text : Text) × (length text ≤ body_limit) × IsGiven tree.files name (Some text) × (change ≡ puts name text)

-- Such a change was asked for and due, or none was.
pub record MayEdit (Asked : Change → Type 0) (old new : SessionState) : Type 0 where
  pub changes : List Change
  pub due : (changes ≡ []) ⊎ ((change : Change) × Asked change × IsDue change old.held × (changes ≡ change ∷ []))
  pub makes : Applies changes old new
  pub tools : new.tools ≡ old.tools

-- An `ask` may have begun its derivation: each outcome that came of it is kept, but for the last at most, and what is noted after them is true.
pub record MayHaveAsked (trust : Type 0) (g : Graph) (limit : ℕ) (text : Text) (old new : SessionState) : Type 0 where
  pub given : Calls
  pub noted : List Fact
  pub begun : trust → MayHaveBegunWith g old.held.sources old.held.calls limit text given old.tools new.tools
  pub makes : Applies (changes_for given noted) old new
  pub truth : trust → AreTrueBeside g (kept_outcome new.held.calls) noted
  pub tree : new.tree ≡ old.tree

-- What a command without its reply may leave: of an edit its change; of an `ask` its derivation, as far as it was begun; of a `take` that the
-- tree was asked; of any other command nothing. What is left of an ask is said where this holds.
abbrev pub CommandMayLeaveIf : Type 0 → Graph → ℕ → SessionState → Command → List ℕ → SessionState → Type 0
CommandMayLeaveIf trust g limit old (Put name count) body new = MayEdit (IsPutChange name count body) old new × (new.tree ≡ old.tree)
CommandMayLeaveIf trust g limit old (Take name) body new = MayEdit (IsTakeChange name old.tree) old new × TreeIsAsked old.tree new.tree
CommandMayLeaveIf trust g limit old (Remove name) body new = MayEdit (λ change. change ≡ drops name) old new × (new.tree ≡ old.tree)
CommandMayLeaveIf trust g limit old (Ask text) body new = MayHaveAsked trust g limit text old new
CommandMayLeaveIf trust g limit old other body new = new ≡ old

-- the same where it does
abbrev pub CommandMayLeave : Graph → ℕ → SessionState → Command → List ℕ → SessionState → Type 0
CommandMayLeave = CommandMayLeaveIf ⊤

-- ---- between two commands, and at an exit

-- What stays of the tools: their answers; no count of faults falls, and no more of them run than may ever run at once.
pub record ToolsStay (start now : Spawned) : Type 0 where
  pub answers : now.answer ≡ start.answer
  pub later : start.faults ≤ now.faults
  pub few : length now.running ≤ 64

module _ {Disk : Type 0} (disk : DiskView Disk) (from : Held) (g : Graph) (text : Text) (limit : ℕ) where
  -- Between two commands the engine works by this graph and this limit, 64 at most. The store holds what the state does, and rests on its
  -- file; tools and tree are told as in the state, and no tool runs. No fault of the disk was counted. Where what was held of nodes at the start is true,
  -- what is kept of them is known.
  pub record SessionInvariant (first : SessionState) (start : Told Disk) (code : Engaged) (state : SessionState) (now : Told Disk) : Type 0 where
    pub graph : code.graph ≡ g
    pub jobs : code.jobs ≡ limit
    pub few : limit ≤ 64
    pub held : held_in code.store ≡ state.held
    pub knows : RecordsAreTrue g from → KnowsStore g code.store
    pub tools : now.tools ≡ state.tools
    pub tree : now.tree ≡ state.tree
    pub stay : ToolsStay start.tools now.tools
    pub tree_stays : TreeStays start.tree now.tree
    pub idle : now.tools.running ≡ []
    pub ready : IsReady code.store.journal (disk.size_of now.disk)
    pub faults : disk.faults now.disk ≡ disk.faults start.disk
    pub trail : IsQuiet (disk.told start.disk) → Trail store_keeping first.held (disk.told start.disk) state.changes code.store (disk.told now.disk)
    pub written : IsQuiet (disk.told start.disk) → HasWritten disk.told text state.changes start.disk code.store now.disk
    pub within : now.over ≡ None

module _ {Disk : Type 0} (disk : DiskView Disk) (g : Graph) (text : Text) (limit : ℕ) where
  -- its disk failed, or a batch didn't fit
  abbrev pub StoreFailed : Told Disk → Told Disk → Type 0
  StoreFailed start now = Rose (disk.faults start.disk) (disk.faults now.disk) ⊎ (now.over ≢ None)

  -- At an exit tools and tree have done what they did in the furthest state, and no more, and no fault is acknowledged that they have not
  -- counted. All changes that are acknowledged are in every image that a crash may leave; and so are all others, but for the last one, where
  -- the disk failed at it or its batch didn't fit.
  pub record StateAtExit (first : SessionState) (start : Told Disk) (acknowledged furthest : SessionState) (now : Told Disk) : Type 0 where
    pub tools : now.tools ≡ furthest.tools
    pub tree : now.tree ≡ furthest.tree
    pub counted : acknowledged.tools.faults ≤ now.tools.faults
    pub tree_counted : acknowledged.tree.faults ≤ now.tree.faults
    pub stay : ToolsStay start.tools now.tools
    pub tree_stays : TreeStays start.tree now.tree
    pub safe : IsSafe disk.told text first.held acknowledged.changes furthest.changes start.disk now.disk (disk.faults start.disk) (disk.faults now.disk)
    pub lasting : IsQuiet (disk.told start.disk) → HoldsAll disk.told text first.held furthest.changes start.disk now.disk
        ⊎ (StoreFailed start now × LacksLast disk.told first.held furthest.changes start.disk now.disk)
    pub full : (at size : ℕ) → now.over ≡ Some (at, size) → HasNoRoomForLast disk.told text furthest.changes start.disk now.disk at size

-- From what is held at the start: replies to asks are said where what is held of nodes is true there.
abbrev pub machine : {Disk : Type 0} → DiskView Disk → Held → Graph → Text → ℕ → Machine Command Engaged SessionState (Told Disk)
machine disk from g text limit = record {
  sink = λ told. told.sink;
  Step = StepIf (RecordsAreTrue g from) g limit;
  MayLeave = λ state command body furthest. CommandMayLeaveIf (RecordsAreTrue g from) g limit state command body furthest;
  Invariant = λ first start code state now. SessionInvariant disk from g text limit first start code state now;
  AtExit = λ first start acknowledged furthest now. StateAtExit disk g text limit first start acknowledged furthest now;
}

-- where a session may stop at a command
abbrev pub halt_of : Stop → Halt
halt_of stop.Memory = before_reply
halt_of stop.Disk = before_reply
halt_of (stop.Full at size) = before_reply
halt_of stop.Output = within_reply
halt_of stop.Quit = behind_reply

-- what is told where it stops: the numbers of a batch that doesn't fit
abbrev pub over_of : Stop → Option (ℕ × ℕ)
over_of (stop.Full at size) = Some (at, size)
over_of other = None

abbrev pub told_with_stop : {Disk : Type 0} → Stop → Told Disk → Told Disk
told_with_stop s told = record told { over = over_of s }
