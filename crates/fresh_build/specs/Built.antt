-- A build: the sources are set, and a text is replied to.
use Rattle.std.specs.Prelude.{◌≡◌, ◌⊎◌, ℕ, []}
use Rattle.object_values.specs.Texts.{Texts}
use Rattle.object_values.specs.declared.replies.Reply.{Reply}
use Rattle.odin_outside.specs.Disk.{Telling}
use Rattle.odin_outside.specs.Spawned.{Spawned}
use Rattle.meaning_graph.specs.Graphs.{Text, Graph}
use Rattle.odin_journal.specs.declared.fault.JournalFault.{JournalFault}
use Rattle.odin_store.specs.declared.store.Store.{Store}
use Rattle.kept_derive.specs.Runs.{At}
use Rattle.odin_answers.specs.Replied.{HasReplied, HasStopped}
use Rattle.fresh_build.specs.Edits.{changes_to}
use Rattle.fresh_build.specs.Sets.{MaySet, SetsSources, FailsToMake}

-- The wanted sources may be set, and no tool runs.
pub record MayBuild (store : Store) (size : ℕ) (tools : Spawned) (wanted : Texts) : Type 0 where
  pub set : MaySet store size wanted
  pub none : tools.running ≡ []

module _ {Disk : Type 0} (told : Disk → Telling) (g : Graph) (limit : ℕ) (wanted : Texts) (text : Text) (old new : At Disk) where
  -- The sources are just those that are wanted, and from these alone the text got this reply.
  pub record HasBuilt (reply : Reply) : Type 0 where
    pub mid : At Disk
    pub sets : SetsSources told wanted old.store mid.store old.disk mid.disk
    pub tools : mid.tools ≡ old.tools
    pub replied : HasReplied told g limit text mid new reply

  -- Not all of the edits were made, and no tool was asked for anything.
  pub record HasNotSet (given : JournalFault) : Type 0 where
    pub failed : FailsToMake told (changes_to wanted old.store.sources.texts) old.store new.store old.disk new.disk given
    pub tools : new.tools ≡ old.tools

  -- The sources are just those that are wanted, and the text got no reply.
  pub record HasNotReplied (given : JournalFault) : Type 0 where
    pub mid : At Disk
    pub sets : SetsSources told wanted old.store mid.store old.disk mid.disk
    pub tools : mid.tools ≡ old.tools
    pub stopped : HasStopped told g limit text mid new given

  -- why there is no reply
  abbrev pub HasNotBuilt : JournalFault → Type 0
  HasNotBuilt given = HasNotSet given ⊎ HasNotReplied given
