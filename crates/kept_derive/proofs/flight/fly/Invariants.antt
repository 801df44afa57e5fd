use Rattle.std.proofs.Common.{◌≡◌}
use Rattle.std.specs.Prelude.{None, IsTrue}
use Rattle.odin_journal.specs.Rest.{IsReady}
use Rattle.derive_walk.specs.Walks.{IsAdvanced}
use Rattle.plain_derive.specs.Flights.{on_course}
use Rattle.kept_derive.specs.Knowing.{KnowsStore}
use Rattle.kept_derive.specs.Looked.{AreCounted}
use Rattle.kept_derive.specs.Runs.{at, store_world}
use Rattle.kept_derive.specs.Ways.{IsOnWay}
use Rattle.kept_derive.proofs.flight.fly.Given as goal

abbrev pub invariant-loop : goal.invariant-loop
invariant-loop g l = record {
  way : IsOnWay g.D.Disk.told l.planned l.fn.core.root on_course (at l.fn.store l.fn.disk (g.S.Spawner.told l.fn.tools)) l.core l.jobs (at l.store l.disk (g.S.Spawner.told l.tools));
  still : l.core.result ≡ None;
  fresh : IsTrue l.fresh → KnowsStore l.planned l.fn.store → IsAdvanced (store_world l.planned l.fn.store l.core.given) l.core;
  ready : IsReady l.store.journal (g.D.Disk.size_of l.disk);
  limit : l.jobs.limit ≡ l.fn.jobs.limit;
  cause : g.D.Disk.faults l.disk ≡ g.D.Disk.faults l.fn.disk;
  counted : AreCounted l.fn.steps l.steps 0 l.core;
}
