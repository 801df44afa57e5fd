-- What follows from builds, where the tools answer by a table, what is kept is true for it, and what is kept of nodes is known.
use Rattle.std.specs.Prelude.{◌≡◌, ◌⊎◌, ℕ}
use Rattle.object_values.specs.Texts.{Texts}
use Rattle.object_values.specs.declared.replies.Reply.{Reply}
use Rattle.object_values.specs.declared.replies.Reply.TheVariants.{RefusedToolStart}
use Rattle.odin_outside.specs.Causes.{IsCounted}
use Rattle.odin_outside.specs.Disk.{Telling}
use Rattle.odin_outside.specs.Spawned.{Table, Spawned}
use Rattle.meaning_graph.specs.Graphs.{Text, Graph}
use Rattle.meaning_derive.specs.Answers.{Answer}
use Rattle.meaning_derive.specs.Given.{table_outcomes}
use Rattle.kept_derive.specs.Knowing.{KnowsStore}
use Rattle.kept_derive.specs.Runs.{At}
use Rattle.odin_answers.specs.Laws.{IsTrueFor}
use Rattle.fresh_build.specs.Built.{HasBuilt}

-- A tool was not started, or its end was lost: a fault, which was counted.
pub record IsRefusedStart (reply : Reply) (before now : Spawned) : Type 0 where
  pub is : reply ≡ RefusedToolStart
  pub counted : IsCounted before.faults now.faults

-- What is derived from just these sources, with nothing kept; or a tool was not started.
abbrev pub IsFresh : Graph → Texts → Table → Text → Reply → Spawned → Spawned → Type 0
IsFresh g wanted table text reply before now = Answer g wanted (table_outcomes table) text reply ⊎ IsRefusedStart reply before now

module _ {Disk : Type 0} (told : Disk → Telling) where
  -- The reply of a build is what is derived from just the wanted sources, whatever the store had and kept before.
  abbrev pub BuildsAreFresh : Type 0
  BuildsAreFresh =
      (g : Graph) (table : Table) (wanted : Texts) (limit : ℕ) (text : Text) (reply : Reply) (old new : At Disk)
      → IsTrueFor table old.tools old.store.kept.tables.calls → KnowsStore g old.store → HasBuilt told g limit wanted text old new reply
      → IsFresh g wanted table text reply old.tools new.tools

  -- And what is kept is true after it.
  abbrev pub BuildsKeepTrue : Type 0
  BuildsKeepTrue =
      (g : Graph) (table : Table) (wanted : Texts) (limit : ℕ) (text : Text) (reply : Reply) (old new : At Disk)
      → IsTrueFor table old.tools old.store.kept.tables.calls → KnowsStore g old.store → HasBuilt told g limit wanted text old new reply
      → IsTrueFor table new.tools new.store.kept.tables.calls × KnowsStore g new.store
