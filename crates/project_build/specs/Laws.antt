-- What the status 0 of a build says, where the tools answer by a table, what is kept is true for it, and what is kept of nodes is known.
use Rattle.std.specs.Prelude.{◌≡◌, ℕ, false, List, [], ◌∷◌, ◌++◌, Option}
use Rattle.object_values.specs.Texts.{Texts}
use Rattle.object_values.specs.declared.messages.Status.{Status}
use Rattle.object_values.specs.declared.messages.Message.{Message}
use Rattle.object_values.specs.declared.replies.Reply.{Reply}
use Rattle.object_values.specs.declared.replies.Reply.TheVariants.{Shown}
use Rattle.object_values.specs.declared.replies.ShownBody.{ShownBody}
use Rattle.odin_outside.specs.Disk.{Telling}
use Rattle.odin_outside.specs.Files.{Files}
use Rattle.odin_outside.specs.Spawned.{Table}
use Rattle.meaning_graph.specs.Graphs.{Graph}
use Rattle.meaning_derive.specs.Answers.{Answer}
use Rattle.meaning_derive.specs.Given.{table_outcomes}
use Rattle.kept_derive.specs.Knowing.{KnowsStore}
use Rattle.odin_answers.specs.Laws.{IsTrueFor}
use Rattle.project_file.specs.declared.project.Target.{Target}
use Rattle.project_build.specs.Built.{Standing}
use Rattle.project_build.specs.Projects.{IsBuiltFrom}
use Rattle.project_build.specs.Statuses.{build_status, is_faulty}
use Rattle.project_build.specs.Writes.{HaveWritten, writes_of}

-- What is derived for the target from just these sources, with nothing kept, is an object without errors, and its files were written.
pub record IsFreshTarget (g : Graph) (wanted : Texts) (table : Table) (target : Target) (old new : Option Files) : Type 0 where
  pub status : Status
  pub body : ShownBody
  pub messages : List Message
  pub fine : is_faulty status ≡ false
  pub answer : Answer g wanted (table_outcomes table) target.ask (Shown status body messages)
  pub written : HaveWritten old (writes_of target.file body) new

-- So it is of each target, one after another.
pub data AreFresh (g : Graph) (wanted : Texts) (table : Table) (old : Option Files) : List Target → Option Files → Type 0 where
  none_fresh : AreFresh g wanted table old [] old
  one_fresh : (targets : List Target) (target : Target) (mid new : Option Files)
      → AreFresh g wanted table old targets mid → IsFreshTarget g wanted table target mid new → AreFresh g wanted table old (targets ++ target ∷ []) new

-- Status 0 says that the files of the targets are those of a fresh build, whatever the store had and kept before.
abbrev pub StatusZeroIsFresh : {Disk : Type 0} → (Disk → Telling) → Type 0
StatusZeroIsFresh {Disk} told =
    (g : Graph) (table : Table) (wanted : Texts) (limit : ℕ) (targets : List Target) (replies : List Reply) (old new : Standing Disk)
    → IsTrueFor table old.on.tools old.on.store.kept.tables.calls → KnowsStore g old.on.store → IsBuiltFrom told g limit wanted targets old new replies
    → build_status replies ≡ 0 → AreFresh g wanted table old.files targets new.files
