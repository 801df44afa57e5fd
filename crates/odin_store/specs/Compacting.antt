-- The writing anew of a store of which little lives: its file gets the live batches alone.
use Rattle.std.specs.Prelude.{◌≡◌, ◌⊎◌, ℕ, ◌+◌, ◌*◌, ◌≤◌, ◌<◌, Bool, true, false, List, [], length, map, Option}
use Rattle.odin_outside.specs.Disk.{Telling, LeavesOnly}
use Rattle.object_values.specs.declared.views.Value.{Value}
use Rattle.object_values.specs.declared.items.Item.{Item}
use Rattle.object_values.specs.Texts.{Text}
use Rattle.meaning_texts.specs.Limits.{graph_limit}
use Rattle.meaning_records.specs.Batches.{facts_of}
use Rattle.meaning_records.specs.Images.{Stored}
use Rattle.meaning_records.specs.Live.{AreLive, IsLiveText, Live, live_state}
use Rattle.meaning_records.specs.States.{nothing, ReadsAll, spell_batch}
use Rattle.kept_tables.specs.Holdings.{Holding, fresh_in}
use Rattle.kept_tables.specs.Live.{epochs_of, live_in}
use Rattle.odin_journal.specs.Moments.{Works}
use Rattle.odin_journal.specs.Rewrites.{copy_size, FitsNowhere, Replaces}
use Rattle.odin_journal.specs.Trails as trails
use Rattle.odin_store.specs.declared.store.Store.{Store}
use Rattle.odin_store.specs.Keeping.{store_keeping}
use Rattle.odin_store.specs.OnDisk.{held_in, IsOn}
use Rattle.odin_store.specs.Opening.{LeavesHeld, LeavesOpening, OpensQuietStore}

-- what is live of a store
abbrev pub live_of : Store → Live
live_of store = live_in store.graph store.sources.texts store.kept

-- ---- which store is wasteful

-- a store whose records end before this is not wasteful
abbrev pub wasteful_size : ℕ
wasteful_size = 1048576

-- A store is wasteful where its records end at this or later, and twice the live batch text is less than where they end.
pub record IsWasteful (store : Store) : Type 0 where
  pub long : wasteful_size ≤ store.journal.end
  pub text : ℕ
  pub live : IsLiveText (live_of store) text
  pub little : 2 * text < store.journal.end

-- ---- what it is then

-- These records are the live batches of what a store holds, with these contents, and read as that.
pub record AreLiveRecords (store : Store) (contents : List Value) (records : List (List ℕ)) : Type 0 where
  pub batches : List (List Item)
  pub live : AreLive (live_of store) batches contents
  pub noted : facts_of (live_of store).records ≡ store.kept.tables.records
  pub spelled : records ≡ map spell_batch batches
  pub read : ReadsAll nothing records (live_state (live_of store) contents)

-- such records of what a store holds
pub record LiveRecords (store : Store) : Type 0 where
  pub records : List (List ℕ)
  pub contents : List Value
  pub are : AreLiveRecords store contents records

-- In memory all stays that no file has: what each node comes to at present, and when that was checked.
pub record StaysInMemory (old new : Holding) : Type 0 where
  pub fresh : fresh_in new ≡ fresh_in old
  pub checked : epochs_of new.records.records ≡ epochs_of old.records.records

-- The records of a store were replaced by its live ones, and their contents are its own. What it holds, its graph and its epoch stay, and so does
-- what it has of nodes in memory.
pub record Compacts (store next : Store) (old new : Telling) : Type 0 where
  pub records : List (List ℕ)
  pub live : AreLiveRecords store next.kept.tables.contents records
  pub holds : held_in next ≡ held_in store
  pub graph : next.graph ≡ store.graph
  pub epoch : next.epoch ≡ store.epoch
  pub memory : StaysInMemory store.kept next.kept
  pub replaces : Replaces store.journal next.journal records old new
  pub on : (before : List (List ℕ)) (graph : Option Text) → IsOn old store before graph → IsOn new next records graph
  pub works : Works (copy_size records + 9) 8 old new

-- a copy of the live records fits in neither place
pub record HasNoRoomForCopy (store : Store) : Type 0 where
  pub live : LiveRecords store
  pub nowhere : FitsNowhere store.journal.start.place store.journal.end (copy_size live.records)

-- they were replaced, or there is no room for a copy
abbrev pub CompactsWhere : Store → Store → Telling → Telling → Bool → Type 0
CompactsWhere store next old new true = Compacts store next old new
CompactsWhere store next old new false = HasNoRoomForCopy store

-- ---- at any moment

-- the image has live records of what the store holds
abbrev pub HasLive : Store → List ℕ → Type 0
HasLive store image = (records : List (List ℕ)) × (contents : List Value) × AreLiveRecords store contents records × Stored records image

-- a crash leaves the records on which the store rested, or its live ones
abbrev pub LeavesCompacted : Store → Telling → Telling → Type 0
LeavesCompacted store old new =
    (records : List (List ℕ)) (graph : Option Text) → IsOn old store records graph
    → LeavesOnly old new (λ image. Stored records image ⊎ HasLive store image)

-- the work is none, or that of one copy of the live records at most
abbrev pub WorksForCopy : Store → Telling → Telling → Type 0
WorksForCopy store old new = Works 0 0 old new ⊎ ((live : LiveRecords store) × Works (copy_size live.records + 9) 8 old new)

-- Whatever changes were kept before, they are after a compaction; and a crash within one leaves them.
pub record CompactionsKeep {Disk : Type 0} (told : Disk → Telling) : Type 0 where
  pub goes : (store next : Store) (old new : Disk) → Compacts store next (told old) (told new) → LeavesCompacted store (told old) (told new)
      → trails.ExtendsTrail store_keeping told [] old store new next
  pub stops : (store : Store) (old new : Disk) → LeavesCompacted store (told old) (told new) → trails.StopsWithin store_keeping told [] old store new
  -- nor is anything lost since the opening before it
  pub opened : (graph : Text) (store : Store) (old mid new : Disk) → length graph ≤ graph_limit → OpensQuietStore graph (told old) (told mid) store → LeavesOpening graph (told old) (told mid)
      → LeavesCompacted store (told mid) (told new) → LeavesHeld graph (told old) (told new)
