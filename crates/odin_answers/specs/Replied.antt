-- What the reply to a text leaves of the store, or an ask without one.
use Rattle.std.specs.Prelude.{◌≡◌, ℕ, List, [], ◌∷◌, ◌++◌}
use Rattle.object_values.specs.declared.facts.Fact.{Fact}
use Rattle.odin_outside.specs.Disk.{Telling}
use Rattle.meaning_graph.specs.Graphs.{Text, Graph}
use Rattle.meaning_derive.specs.Derive.{Outcomes}
use Rattle.meaning_records.specs.Tables.{Calls}
use Rattle.object_values.specs.declared.items.Item.{Item}
use Rattle.object_values.specs.declared.replies.Reply.{Reply}
use Rattle.odin_journal.specs.declared.fault.JournalFault.{JournalFault}
use Rattle.odin_journal.specs.declared.fault.JournalFault.TheVariants as fault
use Rattle.odin_store.specs.Held.{Change, IsDue}
use Rattle.odin_store.specs.OnDisk.{held_in, IsOver}
use Rattle.odin_store.specs.Going.{IsBatchOf, Performs, StopsPerforming}
use Rattle.derive_walk.specs.Outcomes.{after}
use Rattle.kept_derive.specs.Knowing.{known_in, AreTrueBeside, KnowsStore}
use Rattle.kept_derive.specs.Runs.{At, keeps_of, changes_for}
use Rattle.kept_derive.specs.Stops.{IsOfResults, IsLastOf}
use Rattle.odin_answers.specs.Answers.{IsReplyIf, IsRecordedFor, HaveFlown, MayHaveBegunWith}

module _ {Disk : Type 0} (told : Disk → Telling) (g : Graph) (limit : ℕ) (text : Text) (old new : At Disk) where
  -- What is noted is true beside the kept calls, what is kept of nodes is known, and so it is of the node of an object that was answered.
  pub record IsKnownAfter (given : Calls) (noted : List Fact) (reply : Reply) : Type 0 where
    pub truth : AreTrueBeside g (known_in new.store) noted
    pub knows : KnowsStore g new.store
    pub recorded : IsRecordedFor g old.store.sources.texts (after (known_in old.store) given) text reply new.store.kept.tables.records

  -- This is the reply, each outcome that came of a tool is kept, and this was noted after them. That is no edit.
  pub record HasReplied (reply : Reply) : Type 0 where
    pub given : Calls
    pub noted : List Fact
    pub is : IsReplyIf (KnowsStore g old.store) g old.store.sources.texts old.store.kept.tables.calls limit text reply given old.tools new.tools
    pub goes : Performs told (changes_for given noted) old.store new.store old.disk new.disk
    pub epoch : new.store.epoch ≡ old.store.epoch
    pub right : KnowsStore g old.store → IsKnownAfter given noted reply

  -- Memory was wanting, and what was noted is true.
  pub record IsRightlyWanted (given : Calls) (noted : List Fact) : Type 0 where
    pub begun : MayHaveBegunWith g old.store.sources.texts old.store.kept.tables.calls limit text given old.tools new.tools
    pub truth : AreTrueBeside g (known_in new.store) noted

  -- Each outcome that came is kept, but for the last at most.
  pub record HasWanted : Type 0 where
    pub given : Calls
    pub noted : List Fact
    pub goes : Performs told (changes_for given noted) old.store new.store old.disk new.disk
    pub right : KnowsStore g old.store → IsRightlyWanted given noted

  -- These outcomes came of tools, of which some may run still, and this was to be kept at last.
  pub record HaveComeBefore (known : Outcomes) (given : Calls) (last : Change) : Type 0 where
    pub rest : Calls
    pub ends : IsLastOf g known rest last
    pub came : HaveFlown g old.store.sources.texts old.store.kept.tables.calls limit text (given ++ rest) old.tools new.tools

  -- The disk failed while the last outcome was kept, or some notes were after all of them. The others are kept.
  pub record HasFailedToKeep : Type 0 where
    pub given : Calls
    pub last : Change
    pub is : IsOfResults last
    pub mid : At Disk
    pub due : IsDue last (held_in mid.store)
    pub goes : Performs told (keeps_of given) old.store mid.store old.disk mid.disk
    pub stops : StopsPerforming told (last ∷ []) mid.store mid.disk new.disk
    pub right : KnowsStore g old.store → HaveComeBefore (known_in mid.store) given last

  -- The batch of the last outcome, or of the notes, of this length, doesn't fit after this end. The others are kept.
  pub record HasNoRoomToKeep (at size : ℕ) : Type 0 where
    pub given : Calls
    pub last : Change
    pub is : IsOfResults last
    pub due : IsDue last (held_in new.store)
    pub goes : Performs told (keeps_of given) old.store new.store old.disk new.disk
    pub items : List Item
    pub batch : IsBatchOf new.store.kept.tables.contents last items
    pub over : IsOver items new.store.journal.end at size
    pub right : KnowsStore g old.store → HaveComeBefore (known_in new.store) given last

  -- what an ask without a reply leaves, by the fault
  abbrev pub HasStopped : JournalFault → Type 0
  HasStopped fault.Disk = HasFailedToKeep
  HasStopped (fault.NotOurs at) = ⊥
  HasStopped (fault.Full at size) = HasNoRoomToKeep at size
  HasStopped fault.Memory = HasWanted
