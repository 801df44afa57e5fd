-- When a journal is refused, and what its answers say of the disk's faults.
use Rattle.std.specs.Prelude.{◌≡◌, ◌+◌, ◌≤◌, ◌<◌, ℕ, List, ⊤, Result, Ok, Err, OnOk, IfErr, IsErrOf}
use Rattle.meaning_records.specs.Front.{file_limit}
use Rattle.meaning_records.specs.Images.{IsOpen, IsRecord, AreRecords, NotOurs}
use Rattle.odin_outside.specs.Causes.{Rose}
use Rattle.odin_outside.specs.Disk.{Telling, IsQuiet}
use Rattle.odin_journal.specs.Moments.{Untouched}
use Rattle.odin_journal.specs.declared.fault.JournalFault.{JournalFault}
use Rattle.odin_journal.specs.declared.fault.JournalFault.TheVariants as fault

-- what a fault says of the disk's count of faults: it rose where the disk failed, and else it is as it was
abbrev pub CountAfterJournalFault : ℕ → ℕ → JournalFault → Type 0
CountAfterJournalFault before now fault.Disk = Rose before now
CountAfterJournalFault before now other = now ≡ before

-- and what any answer says of it
pub record JournalFaultIsCounted {T : Type 0} (before now : ℕ) (result : Result T JournalFault) : Type 0 where
  pub later : before ≤ now
  pub ok : OnOk result (now ≡ before)
  pub err : IfErr result (CountAfterJournalFault before now)

-- a fault of a reading: `NotOurs` only at such an offset, and never `Full`
abbrev pub IsReadFault : (ℕ → Type 0) → JournalFault → Type 0
IsReadFault breaks (fault.NotOurs at) = breaks at
IsReadFault breaks (fault.Full end count) = ⊥
IsReadFault breaks other = ⊤

-- a fault of a file that is a store's
abbrev pub FileIsOurs : JournalFault → Type 0
FileIsOurs (fault.NotOurs at) = ⊥
FileIsOurs other = ⊤

-- at no offset
abbrev pub nowhere : ℕ → Type 0
nowhere at = ⊥

-- at a gate stands no record
abbrev pub HasNoRecord : List ℕ → ℕ → Type 0
HasNoRecord image gate = (payload : List ℕ) → ¬ (IsRecord image gate payload)

-- after whole records from a start on stands an open gate with no record
pub record BreaksBehind (image : List ℕ) (start gate : ℕ) : Type 0 where
  pub records : List (List ℕ)
  pub whole : AreRecords image start records gate
  pub opened : IsOpen image gate
  pub none : HasNoRecord image gate

-- A fault of an opening. `NotOurs` is exact, for what isn't ours has no records, and one place at which it isn't. Want of memory
-- leaves the disk as it was.
abbrev pub IsOpenFault : Telling → Telling → JournalFault → Type 0
IsOpenFault old new fault.Disk = ⊤
IsOpenFault old new (fault.NotOurs at) = IsQuiet old → NotOurs old.seen at
IsOpenFault old new (fault.Full end count) = ⊥
IsOpenFault old new fault.Memory = IsQuiet old → Untouched old new

-- a fault of an adding of so many bytes at this end
abbrev pub IsAddFault : ℕ → ℕ → JournalFault → Type 0
IsAddFault end count (fault.NotOurs at) = ⊥
IsAddFault end count (fault.Full at some) = (file_limit < end + 6 + count) × (at ≡ end) × (some ≡ count)
IsAddFault end count other = ⊤

-- `Full` is answered exactly where so many bytes don't fit after this end.
pub record FullIsExact {T : Type 0} (end count : ℕ) (result : Result T JournalFault) : Type 0 where
  pub room : OnOk result (end + 6 + count ≤ file_limit)
  pub exact : file_limit < end + 6 + count → IsErrOf result (fault.Full end count)
  pub err : IfErr result (IsAddFault end count)

-- an answer that is neither `Ok` nor a fault of the disk
abbrev pub IsRefused : {T : Type 0} → Result T JournalFault → Type 0
IsRefused (Ok value) = ⊥
IsRefused (Err fault.Disk) = ⊥
IsRefused (Err other) = ⊤
