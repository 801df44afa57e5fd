use Rattle.std.proofs.Common.{◌≡◌}
use Rattle.job_runner.specs.Flights.{AreTold}
use Rattle.outside_tests.proofs.flights.rows_gone.Given as goal

abbrev pub invariant-rows : goal.invariant-rows
invariant-rows g l = record { told : AreTold l.jobs.running (g.S.Spawner.told l.tools); limit : l.jobs.limit ≡ 2 }
