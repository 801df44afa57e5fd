-- The opening of an engine over that of its store.
use Rattle.std.proofs.Common.{◌≡◌, ℕ, ◌<◌, ◌≤◌, List, length, Bool, true, false, IsTrue, Result, Ok, Err, IsErr, IsErrAnd, IfErr, inl, inr, refl, sym, subst, arith}
use Rattle.odin_outside.specs.Disk.{Telling, MayLeave, IsQuiet}
use Rattle.odin_outside.specs.Moments.{no_call}
use Rattle.odin_journal.specs.Moments.{Untouched, Works}
use Rattle.odin_journal.specs.declared.fault.JournalFault.{JournalFault}
use Rattle.odin_journal.specs.declared.fault.JournalFault.TheVariants as fault
use Rattle.odin_store.specs.declared.store.Store.{Store}
use Rattle.odin_journal.specs.Faults.{IsReadFault, nowhere}
use Rattle.odin_journal.specs.Rewrites.{IsLetBe}
use Rattle.odin_store.specs.OnDisk.{IsSame}
use Rattle.odin_store.specs.Compacting.{CompactionsKeep, CompactsWhere, IsWasteful, LeavesCompacted}
use Rattle.odin_store.specs.Opening.{HasOpening, LeavesHeld, LeavesOpening, OpeningsKeepHeld, OpensQuietStore, OpensStore, IsStoreOpenFault}
use Rattle.odin_store.proofs.Lemmas.{opens_same}
use Rattle.odin_engine.specs.Opened.{Settles, LeavesSettled, IsSettleFault, OpensQuietEngine, LeavesEngineOpening, IsEngineOpenFault}

-- ---- memory was wanting before the disk was touched

pub untouched_leaves : (graph : List ℕ) (disk : Telling) → ((image : List ℕ) → IsTrue disk.follows → disk.left_since disk.moment image → MayLeave disk image) → LeavesOpening graph disk disk
untouched_leaves graph disk only_now records quiet stored =
    let same : (image : List ℕ) → MayLeave disk image → HasOpening graph records image = λ image left. subst (λ i. HasOpening graph records i) (sym (quiet.only image left)) (inl stored) in
    no_call disk (HasOpening graph records) (λ image left. same image (only_now image quiet.follows left)) same

-- a disk on which nothing is pending, and that no call was made on
pub untouched_disk : (disk : Telling) → ((image : List ℕ) → IsTrue disk.follows → disk.left_since disk.moment image → MayLeave disk image) → IsQuiet disk
    → Untouched disk disk
untouched_disk disk only_now quiet = record {
  quiet = quiet;
  same = refl;
  leaves = no_call disk (λ image. image ≡ disk.seen) (λ image left. quiet.only image (only_now image quiet.follows left)) (λ image left. quiet.only image left);
}

-- ---- faults

-- a fault that is handed on
pub handed : {T : Type 0} (P : JournalFault → Type 0) (r : Result T JournalFault) (e : JournalFault) → IsErrAnd r (λ given. given ≡ e) → P e → IfErr r P
handed P (Ok x) e never there = tt
handed P (Err given) e is there = subst P (sym is) there

-- the store was not opened
pub store_fault : {Disk : Type 0} (told : Disk → Telling) (graph : List ℕ) (old new : Disk) (e : JournalFault) → IsStoreOpenFault graph (told old) (told new) e → IsEngineOpenFault told graph old new e
store_fault told graph old new fault.Disk said = said
store_fault told graph old new (fault.NotOurs at) said = said
store_fault told graph old new (fault.Full end count) said = said
store_fault told graph old new fault.Memory said = inl said

-- ---- what follows on the opening of the store

module _ {Disk : Type 0} (told : Disk → Telling) (graph : List ℕ) (old mid new : Disk) (first : Store) where
  pub settled_leaves : OpensQuietStore graph (told old) (told mid) first → LeavesOpening graph (told old) (told mid) → LeavesSettled told first mid new → LeavesEngineOpening told graph old new
  settled_leaves opens leaves (inl same) = LeavesEngineOpening.opening (subst (λ d. LeavesOpening graph (told old) (told d)) (sym same) leaves)
  settled_leaves opens leaves (inr settled) = LeavesEngineOpening.compaction first mid opens leaves settled.0 settled.1

  pub settled_opens : (store : Store) → OpensQuietStore graph (told old) (told mid) first → LeavesOpening graph (told old) (told mid) → Settles told first store mid new → OpensQuietEngine told graph old new store
  settled_opens store opens leaves settles quiet = record { mid = mid; first = first; opens = opens quiet; crash = leaves; settles = settles }

  pub settled_fault : (e : JournalFault) → OpensQuietStore graph (told old) (told mid) first → IsSettleFault first mid new e → IsEngineOpenFault told graph old new e
  settled_fault fault.Disk opens told_ = tt
  settled_fault (fault.NotOurs at) opens told_ = absurd told_
  settled_fault (fault.Full end count) opens told_ = absurd told_
  settled_fault fault.Memory opens told_ = inr (first, subst (λ d. OpensQuietStore graph (told old) (told d) first) (sym told_.0) opens, told_.1)

  -- no edit was counted
  pub settled_epoch : (store : Store) → Settles told first store mid new → store.epoch ≡ first.epoch
  settled_epoch store (Settles.let_be sparing same) = same.store_is.epoch
  settled_epoch store (Settles.no_room wasteful full same) = same.store_is.epoch
  settled_epoch store (Settles.compacted wasteful compacts leaves) = compacts.epoch

  -- ---- a store that isn't wasteful

  pub stays_opened : (store : Store) → (IsWasteful first → ⊥) → OpensQuietStore graph (told old) (told mid) first → Settles told first store mid new → OpensQuietStore graph (told old) (told new) store
  stays_opened store not opens (Settles.let_be sparing same) quiet =
      subst (λ d. OpensStore graph (told old) (told d) store) (sym same.disk_is) (opens_same graph (told old) (told mid) first store same.store_is (opens quiet))
  stays_opened store not opens (Settles.no_room wasteful full same) quiet = absurd (not wasteful)
  stays_opened store not opens (Settles.compacted wasteful compacts leaves) quiet = absurd (not wasteful)

  pub stays_works : (store : Store) (bytes calls : ℕ) → (IsWasteful first → ⊥) → Settles told first store mid new → Works bytes calls (told old) (told mid) → Works bytes calls (told old) (told new)
  stays_works store bytes calls not (Settles.let_be sparing same) works = subst (λ d. Works bytes calls (told old) (told d)) (sym same.disk_is) works
  stays_works store bytes calls not (Settles.no_room wasteful full same) works = absurd (not wasteful)
  stays_works store bytes calls not (Settles.compacted wasteful compacts leaves) works = absurd (not wasteful)

  pub fails_works : (e : JournalFault) (bytes calls : ℕ) → (IsWasteful first → ⊥) → IsSettleFault first mid new e → Works bytes calls (told old) (told mid) → Works bytes calls (told old) (told new)
  fails_works fault.Disk bytes calls not told_ works = absurd (not told_)
  fails_works (fault.NotOurs at) bytes calls not told_ works = absurd told_
  fails_works (fault.Full end count) bytes calls not told_ works = absurd told_
  fails_works fault.Memory bytes calls not told_ works = subst (λ d. Works bytes calls (told old) (told d)) (sym told_.0) works

-- ---- the compaction

long_end : (end : ℕ) → (end < 1048576 → ⊥) → 1048576 ≤ end
long_end end none = omega (arith, none)

-- what a short file has no want of
pub unlooked_fault : {Disk E : Type 0} (first : Store) (disk : Disk) (result : Result Bool E) → IsErr result → (first.journal.end < 1048576 → result ≡ Ok false) → IsSettleFault first disk disk fault.Memory
unlooked_fault first disk (Ok told) fails short = let no : ⊥ = cc in absurd no
unlooked_fault first disk (Err e) fails short = (refl, long_end first.journal.end (λ less. let same = short less in let no : ⊥ = cc in no))

pub compact_fault : {Disk : Type 0} (first store : Store) (mid new : Disk) (e : JournalFault) → IsWasteful first → IsReadFault nowhere e → (IsLetBe (Err e) → IsSame first store mid new) → IsSettleFault first mid new e
compact_fault first store mid new fault.Disk wasteful said same = wasteful
compact_fault first store mid new (fault.NotOurs at) wasteful said same = absurd said
compact_fault first store mid new (fault.Full end count) wasteful said same = absurd said
compact_fault first store mid new fault.Memory wasteful said same = ((same tt).disk_is, wasteful.long)

pub compact_settles : {Disk : Type 0} (told : Disk → Telling) (first store : Store) (mid new : Disk) (done : Bool) → IsWasteful first → CompactsWhere first store (told mid) (told new) done → LeavesCompacted first (told mid) (told new)
    → (IsLetBe (Ok done) → IsSame first store mid new) → Settles told first store mid new
compact_settles told first store mid new true wasteful compacts leaves same = Settles.compacted wasteful compacts leaves
compact_settles told first store mid new false wasteful full leaves same = Settles.no_room wasteful full (same tt)

-- ---- what the file stood for

pub opening_keeps : {Disk : Type 0} (told : Disk → Telling) → OpeningsKeepHeld told → CompactionsKeep told → (graph : List ℕ) (old new : Disk) → length graph ≤ 1048576 → LeavesEngineOpening told graph old new → LeavesHeld graph (told old) (told new)
opening_keeps told openings compactions graph old new short (LeavesEngineOpening.opening leaves) = openings graph old new short leaves
opening_keeps told openings compactions graph old new short (LeavesEngineOpening.compaction first mid opens leaves wasteful compacted) = compactions.opened graph first old mid new short opens leaves compacted
