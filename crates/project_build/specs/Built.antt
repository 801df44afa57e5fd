-- Targets that are built, one after another.
use Rattle.std.specs.Prelude.{◌≡◌, ◌≤◌, ⊤, ℕ, List, [], ◌∷◌, ◌++◌, Option, Some, None, Result, OnOk, IfErr}
use Rattle.object_values.specs.declared.replies.Reply.{Reply}
use Rattle.object_values.specs.declared.replies.ShownBody.{ShownBody}
use Rattle.odin_outside.specs.Causes.{Rose}
use Rattle.odin_outside.specs.Disk.{Telling}
use Rattle.odin_outside.specs.Files.{Files}
use Rattle.meaning_graph.specs.Graphs.{Graph}
use Rattle.odin_journal.specs.declared.fault.JournalFault.{JournalFault}
use Rattle.odin_journal.specs.Faults.{CountAfterJournalFault}
use Rattle.kept_derive.specs.Runs.{At}
use Rattle.odin_answers.specs.Replied.{HasReplied, HasStopped}
use Rattle.project_file.specs.declared.project.Target.{Target}
use Rattle.project_build.specs.Statuses.{good_body}
use Rattle.project_build.specs.Writes.{Write, HaveWritten, HasWrittenSome, writes_of}
use Rattle.project_build.specs.declared.outputs.OutputFault.{OutputFault}
use Rattle.project_build.specs.declared.outputs.OutputFault.TheVariants as output
use Rattle.project_build.specs.declared.fault.TargetFault.{TargetFault}
use Rattle.project_build.specs.declared.fault.TargetFault.TheVariants as fault

-- the files of what is shown, where that is something
abbrev pub writes_in : List ℕ → Option ShownBody → List Write
writes_in file None = []
writes_in file (Some body) = writes_of file body

-- the files of an object without errors
abbrev pub writes_for : List ℕ → Reply → List Write
writes_for file reply = writes_in file (good_body reply)

-- what is built on, and the files that are written
pub record Standing (Disk : Type 0) : Type 0 where
  pub on : At Disk
  pub files : Option Files

abbrev pub standing : {Disk : Type 0} → At Disk → Option Files → Standing Disk
standing on files = record { on = on; files = files }

module _ {Disk : Type 0} (told : Disk → Telling) (g : Graph) (limit : ℕ) where
  -- The target was asked for, got this reply, and its files were written.
  pub record IsBuilt (target : Target) (reply : Reply) (old new : Standing Disk) : Type 0 where
    pub replied : HasReplied told g limit target.ask old.on new.on reply
    pub written : HaveWritten old.files (writes_for target.file reply) new.files

  -- The targets were, one after another.
  pub data AreBuilt (old : Standing Disk) : List Target → List Reply → Standing Disk → Type 0 where
    none_built : AreBuilt old [] [] old
    one_built : (targets : List Target) (replies : List Reply) (target : Target) (reply : Reply) (mid new : Standing Disk)
        → AreBuilt old targets replies mid → IsBuilt target reply mid new → AreBuilt old (targets ++ target ∷ []) (replies ++ reply ∷ []) new

  -- The target got a reply, and some first ones of its files were written.
  pub record IsHalfBuilt (target : Target) (old new : Standing Disk) : Type 0 where
    pub reply : Reply
    pub replied : HasReplied told g limit target.ask old.on new.on reply
    pub written : HasWrittenSome (writes_for target.file reply) old.files new.files

  -- The target got no reply, for this fault of the store.
  pub record IsUnanswered (target : Target) (why : JournalFault) (old new : Standing Disk) : Type 0 where
    pub stopped : HasStopped told g limit target.ask old.on new.on why
    pub files : new.files ≡ old.files

  -- why a target isn't built
  abbrev pub FailsTarget : Target → TargetFault → Standing Disk → Standing Disk → Type 0
  FailsTarget target (fault.Store why) old new = IsUnanswered target why old new
  FailsTarget target (fault.Output name) old new = (name ≡ target.name) × IsHalfBuilt target old new
  FailsTarget target fault.Memory old new = IsHalfBuilt target old new

  -- Some first targets were built, and the next one wasn't.
  pub record StopsBuilding (targets : List Target) (old new : Standing Disk) (given : TargetFault) : Type 0 where
    pub done : List Target
    pub target : Target
    pub rest : List Target
    pub whole : targets ≡ done ++ target ∷ rest
    pub replies : List Reply
    pub mid : Standing Disk
    pub built : AreBuilt old done replies mid
    pub fails : FailsTarget target given mid new

-- ---- faults

-- why a file of the target was not written
abbrev pub IsOutputFault : List ℕ → OutputFault → TargetFault → Type 0
IsOutputFault name output.Failed (fault.Output given) = given ≡ name
IsOutputFault name output.Memory (fault.Output given) = ⊥
IsOutputFault name given (fault.Store why) = ⊥
IsOutputFault name given fault.Memory = ⊤

-- the faults that leave what runs: those of the store
abbrev pub LeavesTools : TargetFault → Type 0
LeavesTools (fault.Store why) = ⊤
LeavesTools other = ⊥

-- The disk's count of faults and that of the written files: each rose where a fault is its own, and else it is as it was; after want of memory
-- for the name of what failed the latter may have risen too.
abbrev pub CountAfterTargetFault : ℕ → ℕ → ℕ → ℕ → TargetFault → Type 0
CountAfterTargetFault before now written later (fault.Store why) = CountAfterJournalFault before now why × (later ≡ written)
CountAfterTargetFault before now written later (fault.Output name) = (now ≡ before) × Rose written later
CountAfterTargetFault before now written later fault.Memory = now ≡ before

pub record TargetFaultIsCounted {T : Type 0} (before now written later : ℕ) (result : Result T TargetFault) : Type 0 where
  pub disk : before ≤ now
  pub files : written ≤ later
  pub ok : OnOk result ((now ≡ before) × (later ≡ written))
  pub err : IfErr result (CountAfterTargetFault before now written later)
