-- What is known of a file in memory.
use Rattle.std.specs.Prelude.{◌≡◌, ◌⊎◌, ◌<◌, ℕ, List, [], ◌∷◌, ◌-◌, length, take, drop, true, Some}
use Rattle.odin_outside.specs.Causes.{once_more}
use Rattle.odin_outside.specs.Disk.{Telling}
use Rattle.odin_memory.specs.Calls.{Call, Wrote, image_after, image_before, pending_after, calls_until, UndoesNewest, LeftSince, LeftWithin, bytes_written}

-- the image that it was at first, its calls since, the newest first, for how many written bytes and for how many calls there is still
-- room, and how many calls have failed
pub record File : Type 0 where
  pub first : List ℕ
  pub calls : List Call
  pub bytes : ℕ
  pub room : ℕ
  pub faults : ℕ

-- a new file
abbrev pub new_file : List ℕ → ℕ → ℕ → File
new_file image bytes calls = record { first = image; calls = []; bytes = bytes; room = calls; faults = 0 }

-- what a read gives
abbrev pub image_of : File → List ℕ
image_of file = image_after file.first file.calls

-- the file has no room for a call that writes so many bytes
abbrev pub HasNoRoom : ℕ → File → Type 0
HasNoRoom bytes file = (file.room ≡ 0) ⊎ (file.bytes < bytes)

-- after a call that writes so many bytes
abbrev pub after_call : Call → ℕ → File → File
after_call call bytes file = record file { calls = call ∷ file.calls; bytes = file.bytes - bytes; room = file.room - 1 }

-- after a call that failed, which changes nothing but the count of faults
abbrev pub refused : File → File
refused file = record file { faults = once_more file.faults }

-- so many bytes of what a read gives, from this offset on
abbrev pub bytes_at : ℕ → ℕ → File → List ℕ
bytes_at at count file = take count (drop at (image_of file))

-- after a write of these bytes at this offset
abbrev pub file_after_write : ℕ → List ℕ → File → File
file_after_write at bytes file = after_call (Wrote at bytes) (length bytes) file

-- the file has no room for a write of these bytes
abbrev pub HasNoRoomFor : List ℕ → File → Type 0
HasNoRoomFor bytes file = HasNoRoom (length bytes) file

-- what a stop within a call, by its number, may leave, and what a read gave after it
abbrev pub IsLeftAt : ℕ → File → List ℕ → Type 0
IsLeftAt moment file image = LeftWithin file.first (calls_until moment file.calls) image

abbrev pub IsSeenAt : ℕ → File → List ℕ → Type 0
IsSeenAt moment file image = image ≡ image_after file.first (calls_until moment file.calls)

-- By this number the newest call at that stop is a write or a cut that is undone, with all before it done; the image is what a read gave
-- before it.
abbrev pub UndoesAt : ℕ → ℕ → File → Type 0
UndoesAt choice moment file = UndoesNewest choice (calls_until moment file.calls)

abbrev pub IsUndoneAt : ℕ → File → List ℕ → Type 0
IsUndoneAt moment file image = image ≡ image_before file.first (calls_until moment file.calls)

-- what it tells
abbrev pub file_view : File → Telling
file_view file = record {
  seen = image_of file;
  pending = pending_after file.first file.calls;
  moment = length file.calls;
  left_since = λ t image. LeftSince file.first t file.calls image;
  work = Some (record { bytes = bytes_written file.calls; calls = length file.calls });
  follows = true;
}
