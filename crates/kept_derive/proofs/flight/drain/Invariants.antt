use Rattle.std.proofs.Common.{◌≡◌, ◌-◌, length}
use Rattle.kept_derive.specs.Calls.{MayDrain}
use Rattle.kept_derive.specs.Runs.{at}
use Rattle.kept_derive.specs.Ways.{StaysOff}
use Rattle.kept_derive.proofs.flight.drain.Given as goal

abbrev pub invariant-loop : goal.invariant-loop
invariant-loop g l = record {
  on : StaysOff g.D.Disk.told l.fn.core l.fn.jobs (at l.fn.store l.fn.disk (g.S.Spawner.told l.fn.tools)) l.core l.jobs (at l.store l.disk (g.S.Spawner.told l.tools));
  may : MayDrain l.core l.jobs l.store (g.D.Disk.size_of l.disk) (g.S.Spawner.told l.tools);
  limit : l.jobs.limit ≡ l.fn.jobs.limit;
  result : l.core.result ≡ l.fn.core.result;
  looked : l.core.looked ≡ l.fn.core.looked;
  taken : l.core.taken ≡ l.fn.core.taken;
  cause : g.D.Disk.faults l.disk ≡ g.D.Disk.faults l.fn.disk;
  left : length l.jobs.running ≡ l.count - l.counter;
}
