use Rattle.std.proofs.Common.{◌<◌, map, length}
use Rattle.odin_real.specs.Seen.{seen_of}
use Rattle.odin_real.specs.Told.{AreAsked}
use Rattle.odin_real.proofs.waits.wait_any.Given as goal

abbrev pub invariant-loop : goal.invariant-loop
invariant-loop g l = record {
  asked : AreAsked (map seen_of l.fn.started.items) (map seen_of l.started.items);
  some : 0 < length l.started.items;
}
