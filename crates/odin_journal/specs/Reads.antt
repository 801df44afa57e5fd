-- What is read of a store, on a disk of a size on which nothing is pending.
use Rattle.std.specs.Prelude.{◌≡◌, ◌≤◌, ◌<◌, ℕ, List}
use Rattle.meaning_records.specs.Front.{front_size, HasFront}
use Rattle.meaning_records.specs.Images.{IsWritten, IsOpen, IsClosed, IsRecord, AreRecords, IsStore, NotOurs}
use Rattle.odin_outside.specs.Disk.{Telling, IsQuiet}
use Rattle.odin_journal.specs.Faults.{HasNoRecord, BreaksBehind}
use Rattle.odin_journal.specs.Moments.{IsQuietAt, IsTooLong}
use Rattle.odin_journal.specs.Starts.{IsStartOf}
use Rattle.odin_journal.specs.declared.start.Start.{Start}

-- the record at a gate
abbrev pub HasRecord : Telling → ℕ → ℕ → List ℕ → Type 0
HasRecord disk size gate payload = IsQuietAt disk size → IsRecord disk.seen gate payload

-- a gate that is closed
abbrev pub IsShut : Telling → ℕ → ℕ → Type 0
IsShut disk size gate = IsQuietAt disk size → IsClosed disk.seen gate

-- an open gate with no record
abbrev pub BreaksHere : Telling → ℕ → ℕ → ℕ → Type 0
BreaksHere disk size gate at = (at ≡ gate) × (IsQuietAt disk size → IsOpen disk.seen gate × HasNoRecord disk.seen gate)

-- the records from a start on, and the gate that ends them
abbrev pub HasRecords : Telling → ℕ → ℕ → ℕ × List (List ℕ) → Type 0
HasRecords disk size start read = IsQuietAt disk size → AreRecords disk.seen start read.1 read.0

-- such an open gate after records
abbrev pub BreaksFrom : Telling → ℕ → ℕ → ℕ → Type 0
BreaksFrom disk size start at = IsQuietAt disk size → BreaksBehind disk.seen start at

-- a front, and the start in use
abbrev pub HasStart : Telling → ℕ → Start → Type 0
HasStart disk size start = IsQuietAt disk size → HasFront disk.seen × IsStartOf disk.seen start

abbrev pub HasNoFront : Telling → ℕ → Type 0
HasNoFront disk size = IsQuietAt disk size → HasFront disk.seen → ⊥

-- a store, of a file that doesn't count as new
abbrev pub HasStore : Telling → ℕ → ℕ × List (List ℕ) → Type 0
HasStore disk size read = IsQuietAt disk size → IsWritten disk.seen → IsStore disk.seen read.1 read.0

-- from a start to an end, within a file of this size
pub record IsSpan (size start end : ℕ) : Type 0 where
  pub behind_front : front_size ≤ start
  pub ordered : start ≤ end
  pub inside : end < size

-- and a place at which it isn't ours
abbrev pub BreaksStore : Telling → ℕ → ℕ → Type 0
BreaksStore disk size at = IsQuietAt disk size → IsWritten disk.seen → NotOurs disk.seen at

-- a file that is too long
abbrev pub IsLong : Telling → ℕ → Type 0
IsLong disk at = IsQuiet disk → IsTooLong disk.seen at
