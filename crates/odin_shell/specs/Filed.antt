-- What a run has written to its file.
use Rattle.std.specs.Prelude.{◌≡◌, ◌⊎◌, ℕ, ◌+◌, ◌*◌, ◌≤◌, List, [], ◌∷◌, ◌++◌, length, Some}
use Rattle.odin_outside.specs.Causes.{Rose}
use Rattle.odin_outside.specs.Disk.{Telling, IsQuiet}
use Rattle.odin_journal.specs.Trails.{Trail, LeavesPrefix}
use Rattle.meaning_graph.specs.Graphs.{Text}
use Rattle.odin_journal.specs.Moments.{Works}
use Rattle.object_values.specs.declared.facts.Fact.{Fact}
use Rattle.object_values.specs.declared.items.Item.{Item}
use Rattle.meaning_records.specs.Stands.{gate_behind}
use Rattle.meaning_records.specs.States.{State as Read}
use Rattle.odin_store.specs.declared.store.Store.{Store}
use Rattle.odin_store.specs.Held.{Held, Change, StandsFor}
use Rattle.odin_store.specs.OnDisk.{state_in, IsOn, IsOver}
use Rattle.odin_store.specs.Written.{written_in, with_records, record_keeping}
use Rattle.odin_store.specs.Keeping.{store_keeping}
use Rattle.odin_store.specs.Going.{IsBatchOf, AreBatches, IsPartialBatch}
use Rattle.odin_engine.specs.Opened.{OpensEngine, settled_records, settled_noted, settled_bytes, settled_calls}

-- ---- what is written

-- The file was opened: what it had at the start, the batch of the opening after it, and, where it was wasteful, a compaction. Here are the
-- moment at which that ended, and the store then.
pub record OpensFile {Disk : Type 0} (told : Disk → Telling) (text : Text) (start : Disk) : Type 0 where
  pub opened : Disk
  pub store : Store
  pub goes : OpensEngine told text start opened store

-- the records that the file has then
abbrev pub records_at_opening : {Disk : Type 0} {told : Disk → Telling} {text : Text} {start : Disk} → OpensFile told text start → List (List ℕ)
records_at_opening over = settled_records over.goes.settles (over.goes.opens.records ++ over.goes.opens.opening)

-- what was noted then since its last graph
abbrev pub noted_at_opening : {Disk : Type 0} {told : Disk → Telling} {text : Text} {start : Disk} → OpensFile told text start → List Fact
noted_at_opening {text = text} over =
    settled_noted over.goes.settles (over.goes.opens.records ++ over.goes.opens.opening) (Some text) over.goes.opens.on

-- The work since the start is at most that of the reading of the records that the file had, of the front of a new file, of the batch of the
-- opening, of a copy where one was written, and of these batches.
abbrev pub WorksOver : {Disk : Type 0} (told : Disk → Telling) (text : Text) (start : Disk) → OpensFile told text start → List (List ℕ) → Disk → Type 0
WorksOver told text start over payloads now =
    Works (66 + settled_bytes over.goes.settles + written_in (over.goes.opens.opening ++ payloads))
    (16 + settled_calls over.goes.settles + 2 * length over.goes.opens.records + 4 * length (over.goes.opens.opening ++ payloads)) (told start) (told now)

-- The file has the records that it had as its opening ended, after them the batches of these changes, and no others; and the store rests
-- on it. A crash since then leaves some first ones of these. Nothing else was written to it since, and no more work done than for that.
pub record HasWritten {Disk : Type 0} (told : Disk → Telling) (text : Text) (changes : List Change) (start : Disk) (store : Store) (now : Disk) : Type 0 where
  pub over : OpensFile told text start
  pub payloads : List (List ℕ)
  pub on : IsOn (told now) store (records_at_opening over ++ payloads) (Some text)
  pub are : AreBatches (state_in over.store (Some text) (noted_at_opening over)) changes payloads (state_in store (Some text) on.noted)
  pub end : store.journal.end ≡ gate_behind over.store.journal.end payloads
  pub bytes : (told now).seen ≡ with_records over.store.journal.end payloads (told over.opened).seen
  pub trail : Trail record_keeping (records_at_opening over) (told over.opened) payloads store (told now)
  pub works : WorksOver told text start over payloads now

-- The disk failed at one of these changes. After the records of the opening a crash leaves some first ones of the batches of some first
-- changes, and the one that was begun; one that comes now leaves all but that one. No more work was done than for them.
pub record StopsWriting {Disk : Type 0} (told : Disk → Telling) (text : Text) (changes : List Change) (start now : Disk) : Type 0 where
  pub over : OpensFile told text start
  pub made : List Change
  pub rest : List Change
  pub whole : changes ≡ made ++ rest
  pub payloads : List (List ℕ)
  pub last : Read
  pub are : AreBatches (state_in over.store (Some text) (noted_at_opening over)) made payloads last
  pub begun : List (List ℕ)
  pub next : IsPartialBatch last.tables.contents rest begun
  pub leaves : LeavesPrefix record_keeping (records_at_opening over) (told over.opened) payloads (payloads ++ begun) (told now)
  pub works : WorksOver told text start over (payloads ++ begun) now

-- The file has the batches of the changes that are acknowledged and of some more, but of none that isn't one of these.
pub record LiesBetween {Disk : Type 0} (told : Disk → Telling) (text : Text) (acknowledged furthest : List Change) (start now : Disk) : Type 0 where
  pub store : Store
  pub some : List Change
  pub rest : List Change
  pub whole : furthest ≡ (acknowledged ++ some) ++ rest
  pub written : HasWritten told text (acknowledged ++ some) start store now

-- The last of the changes was due, and its batch, of this length, doesn't fit after the end of the file, which has those of the others.
pub record OverBehind {Disk : Type 0} (told : Disk → Telling) (text : Text) (front : List Change) (change : Change) (start now : Disk) (at size : ℕ) : Type 0 where
  pub store : Store
  pub written : HasWritten told text front start store now
  pub items : List Item
  pub batch : IsBatchOf store.kept.tables.contents change items
  pub over : IsOver items store.journal.end at size

pub record HasNoRoomForLast {Disk : Type 0} (told : Disk → Telling) (text : Text) (furthest : List Change) (start now : Disk) (at size : ℕ) : Type 0 where
  pub front : List Change
  pub change : Change
  pub whole : furthest ≡ front ++ change ∷ []
  pub over : IsQuiet (told start) → OverBehind told text front change start now at size

-- ---- what stays

-- The file has the batches of all these changes, and every image that a crash may leave now has them.
pub record HoldsAll {Disk : Type 0} (told : Disk → Telling) (text : Text) (held : Held) (changes : List Change) (start now : Disk) : Type 0 where
  pub store : Store
  pub written : HasWritten told text changes start store now
  pub crash : LeavesPrefix store_keeping held (told start) changes changes (told now)

-- Every such image has all of these changes but the last.
pub record LacksLast {Disk : Type 0} (told : Disk → Telling) (held : Held) (changes : List Change) (start now : Disk) : Type 0 where
  pub front : List Change
  pub change : Change
  pub whole : changes ≡ front ++ change ∷ []
  pub crash : LeavesPrefix store_keeping held (told start) front changes (told now)

-- the file stands for this, for the graph of the text, where nothing is pending on it
abbrev pub StartsFrom : Text → Telling → Held → Type 0
StartsFrom text start held = IsQuiet start → (held.text ≡ text) × StandsFor held start.seen

-- At an exit every image that a crash since the start may leave stands for what was held at the start with some first ones of these
-- changes, and every image that one may leave now has all that are acknowledged. What the file has is that, too, by its records, unless
-- the disk failed; and then every image since the opening has the records of the opening with some first ones of those that belong to it.
pub record IsSafe {Disk : Type 0} (told : Disk → Telling) (text : Text) (held : Held) (acknowledged furthest : List Change) (start now : Disk) (before after : ℕ) : Type 0 where
  pub crash : IsQuiet (told start) → LeavesPrefix store_keeping held (told start) acknowledged furthest (told now)
  pub written : IsQuiet (told start) → LiesBetween told text acknowledged furthest start now ⊎ (Rose before after × StopsWriting told text furthest start now)
  pub later : before ≤ after
