use Rattle.std.proofs.Common.{◌≡◌}
use Rattle.odin_journal.specs.Rest.{IsReady}
use Rattle.store_tests.proofs.noting.played.Given as goal

abbrev pub invariant-rows : goal.invariant-rows
invariant-rows g l = IsReady l.store.journal (g.D.Disk.size_of l.disk) × (l.store.graph ≡ l.text)
