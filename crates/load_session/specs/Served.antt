-- What steps of a load do to a store, its disk and its tools, and where they stop.
use Rattle.std.specs.Prelude.{◌≡◌, ⊤, ℕ, Bool, List, [], ◌∷◌, ◌++◌, length, cond}
use Rattle.object_values.specs.declared.facts.Fact.{Fact}
use Rattle.meaning_graph.specs.Graphs.{Text, Graph}
use Rattle.meaning_records.specs.Tables.{Calls}
use Rattle.object_values.specs.declared.replies.Reply.{Reply}
use Rattle.object_values.specs.declared.replies.Reply.TheVariants.{Shown}
use Rattle.object_values.specs.declared.replies.ShownBody.TheVariants.{Simple}
use Rattle.odin_journal.specs.Faults.{CountAfterJournalFault}
use Rattle.odin_journal.specs.declared.fault.JournalFault.{JournalFault}
use Rattle.odin_journal.specs.declared.fault.JournalFault.TheVariants as fault
use Rattle.odin_store.specs.Held as held
use Rattle.odin_store.specs.Going.{Performs}
use Rattle.odin_store.specs.Edited.{HasPut, HasFailed}
use Rattle.kept_derive.specs.Runs.{At, keeps_of, changes_for}
use Rattle.odin_answers.specs.Answers.{HasAnswer}
use Rattle.odin_answers.specs.Replied.{HasStopped}
use Rattle.load_session.specs.Room.{LoadFile, told_of_disk, PassesRoom}
use Rattle.load_session.specs.Session.{LoadStep, puts, asks, asked_text}

-- a store over its disk, and what is told of tools, at one moment
abbrev pub Moment : Type 0
Moment = At LoadFile

-- The program was answered, one tool at a time; each call that was run for that is kept, and notes of nodes after them. No start was refused.
pub record HasAnswered (g : Graph) (old : Moment) (given : Calls) (reply : Reply) (new : Moment) : Type 0 where
  pub is : HasAnswer g old.store.sources.texts old.store.kept.tables.calls 1 asked_text reply given old.tools new.tools
  pub noted : List Fact
  pub goes : Performs told_of_disk (changes_for given noted) old.store new.store old.disk new.disk
  pub epoch : new.store.epoch ≡ old.store.epoch

-- Steps were served, one after another, from one moment to another; for each ask, the calls that were run and the reply.
pub data ServesSteps (g : Graph) (old : Moment) : List LoadStep → List (Calls × Reply) → Moment → Type 0 where
  none : ServesSteps g old [] [] old
  put : (steps : List LoadStep) (answers : List (Calls × Reply)) (mid new : Moment) (name text : Text) (changed : Bool)
      → ServesSteps g old steps answers mid → HasPut told_of_disk name text mid.store new.store mid.disk new.disk changed → new.tools ≡ mid.tools
      → ServesSteps g old (steps ++ puts name text ∷ []) answers new
  ask : (steps : List LoadStep) (answers : List (Calls × Reply)) (mid new : Moment) (given : Calls) (reply : Reply)
      → ServesSteps g old steps answers mid → HasAnswered g mid given reply new
      → ServesSteps g old (steps ++ asks ∷ []) (answers ++ (given, reply) ∷ []) new

-- A step failed, and why.
abbrev pub StepFails : Graph → LoadStep → Moment → Moment → JournalFault → Type 0
StepFails g (puts name text) old new = HasFailed told_of_disk (held.puts name text) old.store new.store old.disk new.disk
StepFails g asks old new = HasStopped told_of_disk g 1 asked_text old new

-- the changes that were made for steps, one after another
abbrev pub changes_of : (g : Graph) (old : Moment) (steps : List LoadStep) (answers : List (Calls × Reply)) (new : Moment) → ServesSteps g old steps answers new → List held.Change
changes_of g old steps answers new none = []
changes_of g old steps answers new (put before others mid _ name text changed serves has same) = changes_of g old before others mid serves ++ cond changed (held.puts name text ∷ []) []
changes_of g old steps answers new (ask before others mid _ given reply serves has) = changes_of g old before others mid serves ++ changes_for given has.noted

-- those of a step at which the disk failed: the last one was begun
abbrev pub failed_changes : (g : Graph) (step : LoadStep) (old new : Moment) → StepFails g step old new fault.Disk → List held.Change
failed_changes g (puts name text) old new fails = held.puts name text ∷ []
failed_changes g asks old new fails = keeps_of fails.given ++ fails.last ∷ []

-- A disk fails only past its room.
abbrev pub PassesFor : JournalFault → LoadFile → Type 0
PassesFor fault.Disk disk = PassesRoom disk
PassesFor other disk = ⊤

-- Some first ones of these steps were served, and the next one failed for this fault.
pub record StopsAtStep (g : Graph) (old : Moment) (steps : List LoadStep) (fault : JournalFault) : Type 0 where
  pub served : List LoadStep
  pub step : LoadStep
  pub more : List LoadStep
  pub whole : steps ≡ served ++ step ∷ more
  pub answers : List (Calls × Reply)
  pub mid : Moment
  pub serves : ServesSteps g old served answers mid
  pub new : Moment
  pub fails : StepFails g step mid new fault
  pub cause : CountAfterJournalFault mid.disk.file.faults new.disk.file.faults fault
  pub room : PassesFor fault new.disk

-- Want of memory says nothing, and the file is always the store's own.
abbrev pub StepsStopFor : Graph → Moment → List LoadStep → JournalFault → Type 0
StepsStopFor g old steps fault.Disk = StopsAtStep g old steps fault.Disk
StepsStopFor g old steps (fault.NotOurs at) = ⊥
StepsStopFor g old steps (fault.Full at size) = StopsAtStep g old steps (fault.Full at size)
StepsStopFor g old steps fault.Memory = ⊤

-- how many bytes the object of a reply has, and 0 where it shows no simple one
abbrev pub shown_length : Reply → ℕ
shown_length (Shown status (Simple text) messages) = length text
shown_length other = 0
