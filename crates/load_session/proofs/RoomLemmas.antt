-- The room of the disk of a load.
use Rattle.std.proofs.Common.{◌≢◌, ◌+◌, length, inl, inr}
use Rattle.std.proofs.lemmas.Bool.{cases_lt}
use Rattle.odin_outside.specs.Disk.{Work}
use Rattle.odin_memory.specs.Calls.{bytes_written}
use Rattle.odin_memory.specs.File.{File}
use Rattle.load_session.specs.Room.{most_bytes, most_calls, HasRoom, PassesRoom}

-- no call fails within it
pub past_room : (file : File) (lost : Work) → HasRoom file lost → file.faults ≢ 0 → PassesRoom (record { file = file; lost = lost })
past_room file lost room failed = elim (cases_lt most_bytes (bytes_written file.calls + lost.bytes)) [
  | inl more ↦ inl more
  | inr within ↦ elim (cases_lt most_calls (length file.calls + lost.calls)) [
    | inl more ↦ inr more
    | inr few ↦ absurd (failed (room.none_failed (room.within within few)))
  ]
]
