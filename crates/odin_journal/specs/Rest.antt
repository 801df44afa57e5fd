-- A journal on a disk at rest.
use Rattle.std.specs.Prelude.{◌≡◌, ◌+◌, ◌≤◌, ◌<◌, ◌⊎◌, ℕ, List, [], ◌∷◌, ◌++◌, IsTrue, IsFalse, length, drop, slice_index, Result, OnOk, IfOk, IsErrOf}
use Rattle.odin_outside.specs.Disk.{Telling, IsQuiet, LeavesOnly, Written}
use Rattle.odin_bytes.specs.Fields.{bytes_field}
use Rattle.odin_journal.specs.Moments.{Untouched, Works}
use Rattle.meaning_records.specs.Front.{file_limit, front_size, new_store}
use Rattle.meaning_records.specs.Images.{gate_after, with_record, IsNew, Stored, IsStore}
use Rattle.odin_journal.specs.declared.journal.Journal.{Journal}
use Rattle.odin_journal.specs.declared.fault.JournalFault.{JournalFault}
use Rattle.odin_journal.specs.declared.fault.JournalFault.TheVariants.{Disk}
use Rattle.odin_journal.specs.Starts.{IsStartOf}

-- nothing is pending, and what a read gives is a store with these records and this end
pub record AtRest (disk : Telling) (records : List (List ℕ)) (end : ℕ) : Type 0 where
  pub quiet : IsQuiet disk
  pub store : IsStore disk.seen records end

-- the records from before, or with one more
abbrev pub BeforeOrAfter : List (List ℕ) → List ℕ → List ℕ → Type 0
BeforeOrAfter records payload image = Stored records image ⊎ Stored (records ++ payload ∷ []) image

-- nothing is pending on a file that counts as new, whose byte at 0 is there and is 0
pub record IsCleared (disk : Telling) : Type 0 where
  pub quiet : IsQuiet disk
  pub some : 1 ≤ length disk.seen
  pub zero_first : slice_index disk.seen 0 ≡ 0
  pub within : length disk.seen ≤ file_limit

-- such a file became it, and what lies after a front is as it was
pub record Clears (old new : Telling) : Type 0 where
  pub cleared : IsCleared new
  pub back : drop 65 new.seen ≡ drop 65 old.seen

-- a file that counted as new became a store without records
pub record MakesNewStore (old new : Telling) : Type 0 where
  pub rests : AtRest new [] front_size
  pub bytes : new.seen ≡ new_store old.seen

-- where nothing is pending on it
abbrev pub MakesNew : Telling → Telling → Type 0
MakesNew old new = IsQuiet old → IsNew old.seen → MakesNewStore old new

abbrev pub ClearsNew : Telling → Telling → Type 0
ClearsNew old new = IsQuiet old → IsNew old.seen → Clears old new

abbrev pub MakesCleared : Telling → Telling → Type 0
MakesCleared old new = IsCleared old → MakesNewStore old new

-- and a crash at any moment leaves a file without records
abbrev pub StaysEmpty : Telling → Telling → Type 0
StaysEmpty old new = IsQuiet old → IsNew old.seen → LeavesOnly old new (Stored [])

abbrev pub StaysCleared : Telling → Telling → Type 0
StaysCleared old new = IsCleared old → LeavesOnly old new (Stored [])

-- The records of the file were these, and the journal rests on them. A file that counted as new was made a store, with these bytes.
pub record OpensJournal (old new : Telling) (records : List (List ℕ)) (end : ℕ) : Type 0 where
  pub stored : Stored records old.seen
  pub rests : AtRest new records end
  pub made : IsNew old.seen → new.seen ≡ new_store old.seen

-- where nothing was pending
abbrev pub OpensQuietJournal : Telling → Telling → Journal × List (List ℕ) → Type 0
OpensQuietJournal old new opened = IsQuiet old → OpensJournal old new opened.1 opened.0.end

-- and its start is the one in use
pub record OpensStarted (old new : Telling) (opened : Journal × List (List ℕ)) : Type 0 where
  pub opens : OpensQuietJournal old new opened
  pub starts : IsQuiet old → IsStartOf new.seen opened.0.start

-- The opening of an empty file is this work at most, and the journal ends where the records of a new file start.
pub record OpensEmptyFile (old new : Telling) (result : Result (Journal × List (List ℕ)) JournalFault) : Type 0 where
  pub works : Works 66 16 old new
  pub end : IfOk result (λ opened. opened.0.end ≡ front_size)

-- a file that doesn't count as new is only read
abbrev pub OnlyReads : Telling → Telling → Type 0
OnlyReads old new = IsQuiet old → ¬ (IsNew old.seen) → Untouched old new

-- a crash at any moment leaves the records from before
abbrev pub KeepsRecords : Telling → Telling → Type 0
KeepsRecords old new = (records : List (List ℕ)) → IsQuiet old → Stored records old.seen → LeavesOnly old new (Stored records)

-- A record was added at this end, and the next is added at that one.
pub record AddsRecord (end next : ℕ) (payload : List ℕ) (old new : Telling) : Type 0 where
  pub next_is : next ≡ gate_after end payload
  pub rests : (records : List (List ℕ)) → AtRest old records end → AtRest new (records ++ payload ∷ []) next
  pub bytes : IsQuiet old → new.seen ≡ with_record end payload old.seen

-- a crash at any moment leaves the records from before, with this one or without
abbrev pub KeepsOrAdds : ℕ → List ℕ → Telling → Telling → Type 0
KeepsOrAdds end payload old new = (records : List (List ℕ)) → AtRest old records end → LeavesOnly old new (BeforeOrAfter records payload)

-- the same of the bytes after a closed gate and that gate, which are those of a record
abbrev pub AddsBytes : ℕ → List ℕ → Telling → Telling → Type 0
AddsBytes end bytes old new = (payload : List ℕ) (records : List (List ℕ)) → bytes ≡ bytes_field payload ++ 0 ∷ [] → AtRest old records end → AtRest new (records ++ payload ∷ []) (end + 5 + length payload)

abbrev pub KeepsOrAddsBytes : ℕ → List ℕ → Telling → Telling → Type 0
KeepsOrAddsBytes end bytes old new = (payload : List ℕ) (records : List (List ℕ)) → bytes ≡ bytes_field payload ++ 0 ∷ [] → AtRest old records end → LeavesOnly old new (BeforeOrAfter records payload)

abbrev pub OpensGate : ℕ → List ℕ → Telling → Telling → Type 0
OpensGate end bytes old new = IsQuiet old → Written old.seen end (1 ∷ bytes) new.seen

-- a journal that can be added to, on a disk of this size
pub record IsReady (journal : Journal) (size : ℕ) : Type 0 where
  pub fresh : IsFalse journal.spent
  pub inside : journal.end < size
  pub within : journal.end < file_limit
  pub behind_front : front_size ≤ journal.start.place
  pub before_end : journal.start.place ≤ journal.end

-- A journal on a disk at rest with these records: it ends where they do, and its start is the one in use.
pub record RestsOn (disk : Telling) (records : List (List ℕ)) (journal : Journal) : Type 0 where
  pub rests : AtRest disk records journal.end
  pub starts : IsStartOf disk.seen journal.start

-- the adding of a record to a journal
abbrev pub AddsTo : Journal → Journal → List ℕ → Telling → Telling → Type 0
AddsTo journal next payload old new = AddsRecord journal.end next.end payload old new

abbrev pub LeavesAdded : Journal → List ℕ → Telling → Telling → Type 0
LeavesAdded journal payload old new = KeepsOrAdds journal.end payload old new

-- what a journal is after a change: it can be changed on, or is spent
pub record JournalAfter {T : Type 0} (journal : Journal) (size : ℕ) (result : Result T JournalFault) : Type 0 where
  pub ready : OnOk result (IsReady journal size)
  pub spent : IsErrOf result Disk → IsTrue journal.spent

-- a journal that rests on records rests on one more
abbrev pub RestsOnMore : Journal → Journal → List ℕ → Telling → Telling → Type 0
RestsOnMore journal next payload old new = (records : List (List ℕ)) → RestsOn old records journal → RestsOn new (records ++ payload ∷ []) next

-- the same after the adding of a record, on which the journal rests with the others
pub record IsAddedTo {T : Type 0} (journal next : Journal) (payload : List ℕ) (old new : Telling) (size : ℕ) (result : Result T JournalFault) : Type 0 where
  pub ready : OnOk result (IsReady next size)
  pub spent : IsErrOf result Disk → IsTrue next.spent
  pub rests : OnOk result (RestsOnMore journal next payload old new)
