-- The disk of a load: a file in memory with so much room, which also tells the first call that it refused.
use Rattle.std.specs.Prelude.{◌≡◌, ◌≢◌, ◌⊎◌, ℕ, ◌+◌, ◌≤◌, ◌<◌, [], length, Some, Result, OnOk, OnErr}
use Rattle.odin_outside.specs.Disk.{Telling, Work}
use Rattle.odin_memory.specs.Calls.{bytes_written}
use Rattle.odin_memory.specs.File.{File, new_file, file_view}

-- the most bytes that may be written in all, and the most calls
abbrev pub most_bytes : ℕ
most_bytes = 67108864

abbrev pub most_calls : ℕ
most_calls = 131072

-- the file, and the work of the first call that was refused: none, where none was
pub record LoadFile : Type 0 where
  pub file : File
  pub lost : Work

abbrev pub zero_work : Work
zero_work = record { bytes = 0; calls = 0 }

-- the empty file
abbrev pub empty_disk : LoadFile
empty_disk = record { file = new_file [] most_bytes most_calls; lost = zero_work }

-- the work that was asked of it, up to the first call that was refused
abbrev pub asked_of : LoadFile → Work
asked_of disk = record { bytes = bytes_written disk.file.calls + disk.lost.bytes; calls = length disk.file.calls + disk.lost.calls }

-- what it tells
abbrev pub told_of_disk : LoadFile → Telling
told_of_disk disk = record (file_view disk.file) { work = Some (asked_of disk) }

-- More was asked of it than it has room for.
abbrev pub PassesRoom : LoadFile → Type 0
PassesRoom disk = (most_bytes < (asked_of disk).bytes) ⊎ (most_calls < (asked_of disk).calls)

-- What stays of it: how much room is left, that a call was refused where one is noted, and that none is within the room.
pub record HasRoom (file : File) (lost : Work) : Type 0 where
  pub bytes : file.bytes + bytes_written file.calls ≡ most_bytes
  pub calls : file.room + length file.calls ≡ most_calls
  pub none_lost : lost.calls ≡ 0 → lost.bytes ≡ 0
  pub none_failed : lost.calls ≡ 0 → file.faults ≡ 0
  pub within : bytes_written file.calls + lost.bytes ≤ most_bytes → length file.calls + lost.calls ≤ most_calls → lost.calls ≡ 0

-- A call that was refused is noted, where it is the first.
pub record NotesLost {T E : Type 0} (bytes : ℕ) (old new : Work) (result : Result T E) : Type 0 where
  pub ok : OnOk result (new ≡ old)
  pub first : OnErr result (old.calls ≡ 0 → new ≡ record { bytes = bytes; calls = 1 })
  pub later : OnErr result (old.calls ≢ 0 → new ≡ old)
