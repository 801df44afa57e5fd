-- What calls on a disk leave of it.
use Rattle.std.specs.Prelude.{◌≡◌, ℕ, max, ◌+◌, ◌<◌, ◌≤◌, IsTrue, IsFalse, List, length, slice_range, Result, OnOk}
use Rattle.odin_outside.specs.Disk.{Telling, LeavesOnly, IsQuiet, Written, Torn, Cut}
use Rattle.odin_outside.specs.Worked.{WorkedWithin}
use Rattle.meaning_records.specs.Front.{file_limit}
use Rattle.meaning_records.specs.Images.{IsNew, IsWritten}
use Rattle.odin_journal.specs.declared.front.Looked.{Looked}

-- nothing is pending, a read gives the same, and a crash at any moment leaves the same
pub record Untouched (old new : Telling) : Type 0 where
  pub quiet : IsQuiet new
  pub same : new.seen ≡ old.seen
  pub leaves : LeavesOnly old new (λ image. image ≡ old.seen)

-- the work of a disk rose by at most so many bytes and calls, where it is told
abbrev pub Works : ℕ → ℕ → Telling → Telling → Type 0
Works bytes calls old new = WorkedWithin bytes calls old.work new.work

-- the size after these bytes were written at this offset
abbrev pub grown : ℕ → ℕ → List ℕ → ℕ
grown size at bytes = max size (at + length bytes)

-- what a read gives has these bytes at this offset, where the disk follows the model
abbrev pub WritesAt : ℕ → List ℕ → Telling → Telling → Type 0
WritesAt at bytes old new = IsTrue old.follows → Written old.seen at bytes new.seen

-- a crash at any moment leaves the file but for so many bytes at this offset
abbrev pub LeavesTorn : ℕ → ℕ → Telling → Telling → Type 0
LeavesTorn at n old new = IsQuiet old → LeavesOnly old new (Torn at n old.seen)

-- a crash at any moment leaves the file, or what a cut to this size leaves of it
abbrev pub LeavesCut : ℕ → Telling → Telling → Type 0
LeavesCut size old new = IsQuiet old → LeavesOnly old new (Cut size old.seen)

-- nothing is pending on a disk of this size
pub record IsQuietAt (disk : Telling) (size : ℕ) : Type 0 where
  pub quiet : IsQuiet disk
  pub long : length disk.seen ≡ size

-- what a look at a file tells: its size, and whether it counts as new
pub record IsLookOf (image : List ℕ) (looked : Looked) : Type 0 where
  pub long : length image ≡ looked.size
  pub new : IsTrue looked.is_new → IsNew image
  pub written : IsFalse looked.is_new → IsWritten image

-- of a disk on which nothing is pending
abbrev pub IsLookAt : Telling → Looked → Type 0
IsLookAt disk looked = IsQuiet disk → IsLookOf disk.seen looked

-- the size of the disk that was looked at, which a store may have
pub record HasStoreSize (size : ℕ) (looked : Looked) : Type 0 where
  pub is : looked.size ≡ size
  pub within : looked.size ≤ file_limit

-- a file that is too long is not ours at 0
abbrev pub IsTooLong : List ℕ → ℕ → Type 0
IsTooLong image at = (file_limit < length image) × (at ≡ 0)

-- a disk on which nothing is pending is left untouched
abbrev pub StaysQuiet : Telling → Telling → Type 0
StaysQuiet old new = IsQuiet old → Untouched old new

-- What a reading leaves: a disk on which nothing is pending untouched, and, where it succeeded, the size as it was.
pub record IsOnlyRead {T E : Type 0} (old new : Telling) (before now : ℕ) (result : Result T E) : Type 0 where
  pub untouched : StaysQuiet old new
  pub size : OnOk result (now ≡ before)

-- so many bytes of what a read gives, where nothing is pending
abbrev pub IsRangeOf : Telling → ℕ → ℕ → List ℕ → Type 0
IsRangeOf disk at count bytes = IsQuiet disk → bytes ≡ slice_range disk.seen at (at + count)

-- a place on a disk of this size
pub record IsPlace (whole size place : ℕ) : Type 0 where
  pub size_is : size ≡ whole
  pub inside : place < size
