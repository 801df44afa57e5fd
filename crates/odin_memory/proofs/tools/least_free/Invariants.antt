use Rattle.std.proofs.Common.{ℕ, ◌<◌}
use Rattle.odin_outside.specs.Spawned.{IsRunning}
use Rattle.odin_memory.proofs.tools.least_free.Given as goal

abbrev pub invariant-loop-slot : goal.invariant-loop-slot
invariant-loop-slot l = (lower : ℕ) → lower < l.slot → IsRunning l.running lower
