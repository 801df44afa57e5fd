use Rattle.std.proofs.Common.{◌≡◌, ◌≤◌, ◌⊎◌, take, drop}
use Rattle.odin_outside.specs.Disk.{IsCrashImage}
use Rattle.odin_memory.specs.Calls.{image_after, pending_after}
use Rattle.odin_memory.specs.Choices.{IsWhole}
use Rattle.odin_memory.specs.Entries.{calls_from_entries, bytes_left, UndoesLast}
use Rattle.odin_memory.proofs.Undoing.{UndoesSoFar}
use Rattle.odin_memory.proofs.replay.torn.Given as goal

abbrev pub invariant-loop-place : goal.invariant-loop-place
invariant-loop-place l =
    (l.bytes ≡ bytes_left (take l.place l.entries) l.written)
    × IsWhole l.whole
    × (IsWhole l.fn.choice → IsWhole l.choice)
    × IsCrashImage (pending_after l.first (calls_from_entries (take l.place l.entries) l.written)) l.image.items
    × ((l.place ≤ l.pending) ⊎ IsWhole l.fn.choice → l.image.items ≡ image_after l.first (calls_from_entries (take l.place l.entries) l.written))
    × (l.place ≤ l.pending → l.choice ≡ l.fn.choice)
    × (UndoesLast (drop l.pending l.entries) l.fn.choice → UndoesSoFar l.first l.entries l.written l.pending l.place l.choice l.image.items)
