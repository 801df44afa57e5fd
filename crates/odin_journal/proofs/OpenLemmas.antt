-- What is known of a journal's disk after readings of it.
use Rattle.std.proofs.Common.{◌≡◌, inl, inr, ℕ, List, [], length, true, Result, Ok, Err, IfErr, IsErrAnd, IsTrue, IsFalse, refl, sym, ap, subst, ◌∙◌}
use Rattle.odin_outside.specs.Disk.{Telling, LeavesOnly, IsQuiet}
use Rattle.meaning_records.specs.Front.{start_of, HasFront, new_store}
use Rattle.meaning_records.specs.Images.{IsNew, IsWritten, IsStore, Stored, IsClosed, AreRecords, NotOurs}
use Rattle.meaning_records.specs.ImageLemmas.{one_stored, new_or_written}
use Rattle.odin_journal.specs.Faults.{BreaksBehind, IsReadFault, IsOpenFault}
use Rattle.odin_journal.specs.declared.fault.JournalFault.{JournalFault}
use Rattle.odin_journal.specs.declared.fault.JournalFault.TheVariants as fault
use Rattle.odin_journal.specs.Moments.{IsLookOf, IsQuietAt, Untouched}
use Rattle.odin_journal.specs.Rest.{AtRest, MakesNewStore, OpensJournal, KeepsRecords}
use Rattle.odin_journal.specs.Starts.{IsStartOf}
use Rattle.odin_journal.specs.declared.front.Looked.{Looked}
use Rattle.odin_outside.specs.Moments.{then, weaker}
use Rattle.odin_journal.proofs.MomentLemmas.{untouched_on}

pub quiet_on : (old new : Telling) (size : ℕ) → Untouched old new → IsQuietAt old size → IsQuietAt new size
quiet_on old new size untouched quiet = record { quiet = untouched.quiet; long = ap length untouched.same ∙ quiet.long }

-- the same fault, at an offset that says more
pub fault_from : (breaks also : ℕ → Type 0) (e : JournalFault) → ((at : ℕ) → breaks at → also at) → IsReadFault breaks e → IsReadFault also e
fault_from breaks also fault.Disk from there = there
fault_from breaks also (fault.NotOurs at) from there = from at there
fault_from breaks also (fault.Full end count) from never = never
fault_from breaks also fault.Memory from there = there

pub store_from : (image : List ℕ) (start end : ℕ) (records : List (List ℕ)) → IsWritten image → HasFront image → start ≡ start_of image → AreRecords image start records end → IsClosed image end → IsStore image records end
store_from image start end records written front is whole closed = record { written = written; front = front; whole = subst (λ s. AreRecords image s records end) is whole; closed = closed }

pub breaks_from : (image : List ℕ) (start at : ℕ) → IsWritten image → HasFront image → start ≡ start_of image → BreaksBehind image start at → NotOurs image at
breaks_from image start at written front is breaks = inr (inr (record { written = written; front = front; records = breaks.records; whole = subst (λ s. AreRecords image s breaks.records at) is breaks.whole; opened = breaks.opened; none = breaks.none }))

-- a disk that is only read leaves the records that it held
pub untouched_stored : (old new : Telling) (records : List (List ℕ)) → Untouched old new → Stored records old.seen → LeavesOnly old new (Stored records)
untouched_stored old new records untouched stored = weaker old new (λ image. image ≡ old.seen) (Stored records) untouched.leaves (λ image is. subst (λ c. Stored records c) (sym is) stored)

-- and so does one on which a file that counts as new is made a store
pub made_stored : (old mid new : Telling) (records : List (List ℕ)) → Untouched old mid → IsNew old.seen → Stored records old.seen → LeavesOnly mid new (Stored []) → LeavesOnly old new (Stored records)
made_stored old mid new records untouched is_new stored made =
    let none : records ≡ [] = one_stored old.seen [] records (inl (is_new, refl)) stored in
    subst (λ l. LeavesOnly old new (Stored l)) (sym none)
    (then old mid new (Stored []) (Stored []) (Stored []) (untouched_stored old mid [] untouched (inl (is_new, refl))) made (λ c holds. holds) (λ c holds. holds))

pub rests_from : (old new : Telling) (records : List (List ℕ)) (end : ℕ) → Untouched old new → IsStore old.seen records end → AtRest new records end
rests_from old new records end untouched store = record { quiet = untouched.quiet; store = subst (λ c. IsStore c records end) (sym untouched.same) store }

-- a fault of a reading is one of the opening
pub open_fault : (old new : Telling) (breaks : ℕ → Type 0) (e : JournalFault) → ((at : ℕ) → breaks at → IsQuiet old → NotOurs old.seen at) → (IsQuiet old → Untouched old new) → IsReadFault breaks e → IsOpenFault old new e
open_fault old new breaks fault.Disk from untouched there = tt
open_fault old new breaks (fault.NotOurs at) from untouched there = from at there
open_fault old new breaks (fault.Full end count) from untouched never = never
open_fault old new breaks fault.Memory from untouched there = untouched

-- what is read of a disk that was only looked at
pub look_again : (old mid : Telling) (looked : Looked) → (IsQuiet old → Untouched old mid) → (IsQuiet old → IsLookOf old.seen looked) → IsFalse looked.is_new → IsQuiet old → IsQuietAt mid looked.size × IsWritten mid.seen
look_again old mid looked untouched look is quiet =
    let same : Untouched old mid = untouched quiet in
    let seen : IsLookOf old.seen looked = look quiet in
    (record { quiet = same.quiet; long = ap length same.same ∙ seen.long }, subst (λ (image : List ℕ). IsWritten image) (sym same.same) (seen.written is))

-- an opened store
pub opens_store : (old mid new : Telling) (records : List (List ℕ)) (end : ℕ) → Untouched old mid → Untouched mid new → IsWritten mid.seen → IsStore mid.seen records end → OpensJournal old new records end
opens_store old mid new records end first second written store =
    let both : Untouched old new = untouched_on old mid new first second in
    let there : IsStore old.seen records end = subst (λ (image : List ℕ). IsStore image records end) first.same store in
    record {
      stored = inr (end, there);
      rests = rests_from old new records end both there;
      made = λ is_new. absurd (new_or_written old.seen is_new (subst (λ (image : List ℕ). IsWritten image) first.same written));
    }

-- and one that was made
pub opens_new : (old mid new : Telling) → Untouched old mid → IsNew old.seen → MakesNewStore mid new → OpensJournal old new [] 64
opens_new old mid new first is_new made = record {
  stored = inl (is_new, refl);
  rests = made.rests;
  made = λ _. made.bytes ∙ ap new_store first.same;
}

pub keeps_untouched : (old new : Telling) → (IsQuiet old → Untouched old new) → KeepsRecords old new
keeps_untouched old new untouched records quiet stored = untouched_stored old new records (untouched quiet) stored

pub keeps_made : (old mid new : Telling) (looked : Looked) → (IsQuiet old → Untouched old mid) → (IsQuiet old → IsLookOf old.seen looked) → IsTrue looked.is_new → (IsQuiet mid → IsNew mid.seen → LeavesOnly mid new (Stored [])) → KeepsRecords old new
keeps_made old mid new looked untouched look is made records quiet stored =
    let same : Untouched old mid = untouched quiet in
    let is_new : IsNew old.seen = (look quiet).new is in
    made_stored old mid new records same is_new stored (made same.quiet (subst (λ (image : List ℕ). IsNew image) (sym same.same) is_new))

-- a fault that is handed on
pub handed : {T : Type 0} (P : JournalFault → Type 0) (r : Result T JournalFault) (e : JournalFault) → IsErrAnd r (λ given. given ≡ e) → P e → IfErr r P
handed P (Ok x) e never there = tt
handed P (Err given) e is there = subst P (sym is) there

-- a new store starts its records after its front, by the first start
pub new_start : (image c : List ℕ) → c ≡ new_store image → IsStartOf c (record { place = 64; is_first = true })
new_start image c is = subst (λ l. IsStartOf l (record { place = 64; is_first = true })) (sym is) (record { place = refl; which = refl })
