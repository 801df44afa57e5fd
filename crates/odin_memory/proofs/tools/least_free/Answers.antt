use Rattle.std.proofs.Common.{rules}
use borrow.Author.Count.{below_more}
use Rattle.odin_outside.specs.Spawned.{IsRunning}
use Rattle.odin_memory.proofs.tools.least_free.Goals as goal

pub loop-slot-preserved : goal.loop-slot-preserved
loop-slot-preserved c = below_more (IsRunning c.args.running.now) c.loop-slot.slot c.loop-slot.invariant (c.is_running.ensures.0 (search rules))
