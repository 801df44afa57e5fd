use Rattle.std.proofs.Common.{length}
use Rattle.odin_store.proofs.RecordLemmas.{HasLoaded}
use Rattle.odin_store.proofs.loading.load_records.Given as goal

abbrev pub invariant-records : goal.invariant-records
invariant-records l = HasLoaded l.fn.graph l.fn.text l.fn.start l.fn.records l.left.items l.loading

abbrev pub decreases-records : goal.decreases-records
decreases-records l = length l.left.items
