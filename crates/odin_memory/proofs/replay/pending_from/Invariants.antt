use Rattle.std.proofs.Common.{◌≤◌, length, drop}
use Rattle.std.specs.List.{All}
use Rattle.odin_memory.specs.Entries.{IsPending}
use Rattle.odin_memory.proofs.replay.pending_from.Given as goal

abbrev pub invariant-loop-place : goal.invariant-loop-place
invariant-loop-place l = (l.place ≤ length l.entries) × All IsPending (drop l.place l.entries)

abbrev pub decreases-loop-place : goal.decreases-loop-place
decreases-loop-place l = l.place
