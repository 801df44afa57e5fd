-- What was answered stays answered: over a whole session no call comes to an outcome twice, and an acknowledged answer survives a crash, with
-- the record of its node.
use Rattle.std.specs.Prelude.{◌≡◌, ⊤, ℕ, List, [], ◌++◌, map}
use Rattle.odin_outside.specs.Disk.{MayLeave as MayBeLeft, IsQuiet}
use Rattle.odin_outside.specs.Spawned.{Spawned}
use Rattle.meaning_calls.specs.Jobs.{job_of}
use Rattle.meaning_graph.specs.Graphs.{Text, Graph}
use Rattle.meaning_derive.specs.Derive.{Sources, Outcomes}
use Rattle.meaning_records.specs.Tables.{Calls, kept_outcome}
use Rattle.meaning_commands.specs.Items.{Item, IsItem}
use Rattle.meaning_commands.specs.Machines.{AnswersItem, Transcript}
use Rattle.object_values.specs.declared.facts.Fact.{Fact}
use Rattle.odin_bytes.specs.declared.commands.Command.{Command}
use Rattle.object_values.specs.declared.replies.Reply.{Reply}
use Rattle.odin_store.specs.Held.{Held, StandsFor}
use Rattle.derive_walk.specs.Outcomes.{after}
use Rattle.plain_derive.specs.Followed.{LogLeadsTo}
use Rattle.plain_derive.specs.Given.{calls_of}
use Rattle.plain_derive.specs.GivenLaws.{AreNew}
use Rattle.kept_derive.specs.Runs.{changes_for}
use Rattle.odin_answers.specs.Answers.{HasAnswer, IsReply, IsRecordedFor}
use Rattle.odin_answers.specs.Laws.{IsAnsweredAtOnce}
use Rattle.odin_outside.specs.declared.disk.Disk.{Ghosts as DiskView}
use Rattle.odin_shell.specs.Language.{commands}
use Rattle.odin_shell.specs.Machine.{SessionState, Told, Applies, AsksForObject, Step, CommandMayLeave, StateAtExit}

-- ---- over a whole session

-- All outcomes that came of tools are kept after those of before, in their order. None is of a call that was kept, and no two are of one
-- call: no tool was run twice to its end for the same inputs. Where the tools' log is told, the tools that came to their end by it are just
-- those of these calls, in this order, and none that was started runs still.
pub record CameOnce (first last : SessionState) : Type 0 where
  pub came : Calls
  pub kept : last.held.calls ≡ first.held.calls ++ came
  pub new : AreNew (kept_outcome first.held.calls) came
  pub log : LogLeadsTo first.tools.log last.tools.log [] (map job_of (calls_of came))

abbrev pub NeverTwice : Type 0
NeverTwice =
    (g : Graph) (limit : ℕ) (first last : SessionState) (items : List Item) (replies : List (List ℕ))
    → Transcript commands (Step g limit) first items replies last → CameOnce first last

-- ---- after a crash

-- A text was answered in a session, and the answer was acknowledged.
pub record IsAcknowledged (g : Graph) (limit : ℕ) (text : Text) (reply : Reply) (first acknowledged : SessionState) : Type 0 where
  pub front : List Item
  pub replies : List (List ℕ)
  pub old : SessionState
  pub begins : Transcript commands (Step g limit) first front replies old
  pub given : Calls
  pub mid : SessionState
  pub answer : HasAnswer g old.held.sources old.held.calls limit text reply given old.tools mid.tools
  pub noted : List Fact
  pub makes : Applies (changes_for given noted) old mid
  pub back : List Item
  pub others : List (List ℕ)
  pub goes : Transcript commands (Step g limit) mid back others acknowledged

-- A text was asked for in a session, and its reply was acknowledged.
pub record IsAskedFor (g : Graph) (limit : ℕ) (text : Text) (first acknowledged : SessionState) : Type 0 where
  pub front : List Item
  pub replies : List (List ℕ)
  pub old : SessionState
  pub begins : Transcript commands (Step g limit) first front replies old
  pub bytes : List ℕ
  pub mid : SessionState
  pub asks : AsksForObject ⊤ g limit text old bytes mid
  pub back : List Item
  pub others : List (List ℕ)
  pub goes : Transcript commands (Step g limit) mid back others acknowledged

-- The furthest state is what is acknowledged, or one command came after it: without a reply, or with one that was cut off.
pub data GoesBeyond (g : Graph) (limit : ℕ) (acknowledged furthest : SessionState) : Type 0 where
  no_more : furthest ≡ acknowledged → GoesBeyond g limit acknowledged furthest
  unreplied : (item : Item) (command : Command) → IsItem commands item command → CommandMayLeave g limit acknowledged command item.body furthest → GoesBeyond g limit acknowledged furthest
  cut_off : (item : Item) (reply : List ℕ) → AnswersItem commands (Step g limit) acknowledged item reply furthest → GoesBeyond g limit acknowledged furthest

-- What is held when the file is opened again: from the same sources the text is answered at once, whatever tools there are then and however
-- many may run.
pub record StaysAnswered (g : Graph) (text : Text) (sources : Sources) (image : List ℕ) : Type 0 where
  pub held : Held
  pub stands : StandsFor held image
  pub again : (most : ℕ) (other : Reply) (given : Calls) (before now : Spawned)
      → IsReply g sources held.calls most text other given before now
      → IsAnsweredAtOnce g sources held.calls most text other given before now

-- And there the node of an object has a record, unless it is a source.
pub record StaysRecorded (g : Graph) (text : Text) (sources : Sources) (outcomes : Outcomes) (reply : Reply) (image : List ℕ) : Type 0 where
  pub held : Held
  pub stands : StandsFor held image
  pub recorded : IsRecordedFor g sources outcomes text reply held.records

module _ {D : Type 0} (disk : DiskView D) where
  -- So it is of every acknowledged answer at every exit, in each image that a crash may leave then.
  abbrev pub AnswersSurvive : Type 0
  AnswersSurvive =
      (g : Graph) (graph_text : Text) (limit : ℕ) (first : SessionState) (start : Told D) (acknowledged furthest : SessionState) (now : Told D)
      → first.changes ≡ [] → IsQuiet (disk.told start.disk) → GoesBeyond g limit acknowledged furthest
      → StateAtExit disk g graph_text limit first start acknowledged furthest now
      → (text : Text) (reply : Reply) → (a : IsAcknowledged g limit text reply first acknowledged)
      → (image : List ℕ) → MayBeLeft (disk.told now.disk) image → StaysAnswered g text a.old.held.sources image

  -- And so it is of the record of every object that was answered and acknowledged.
  abbrev pub RecordsSurvive : Type 0
  RecordsSurvive =
      (g : Graph) (graph_text : Text) (limit : ℕ) (first : SessionState) (start : Told D) (acknowledged furthest : SessionState) (now : Told D)
      → first.changes ≡ [] → IsQuiet (disk.told start.disk) → GoesBeyond g limit acknowledged furthest
      → StateAtExit disk g graph_text limit first start acknowledged furthest now
      → (text : Text) → (a : IsAskedFor g limit text first acknowledged) → (image : List ℕ) → MayBeLeft (disk.told now.disk) image
      → StaysRecorded g text a.old.held.sources (after (kept_outcome a.old.held.calls) a.asks.given) a.asks.says.said image
