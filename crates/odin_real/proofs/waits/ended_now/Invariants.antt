use Rattle.std.proofs.Common.{◌≡◌, map, length}
use Rattle.odin_real.specs.Seen.{seen_of}
use Rattle.odin_real.specs.Told.{AreAsked, NoneEnded}
use Rattle.odin_real.proofs.waits.ended_now.Given as goal

abbrev pub invariant-loop-place : goal.invariant-loop-place
invariant-loop-place g l = record {
  asked : AreAsked (map seen_of l.fn.started.items) (map seen_of l.started.items);
  oldest : NoneEnded l.place (map seen_of l.started.items);
  long : length l.started.items ≡ l.place-end;
}
