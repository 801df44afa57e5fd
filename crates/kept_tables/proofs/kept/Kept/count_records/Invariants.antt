use Rattle.std.proofs.Common.{take}
use Rattle.meaning_records.specs.Live.{IsRecordBatch}
use Rattle.kept_tables.specs.Batching.{CountsLiveBatches}
use Rattle.kept_tables.specs.Holdings.{fresh_in}
use Rattle.kept_tables.proofs.kept.Kept.count_records.Given as goal

abbrev pub invariant-loop-place : goal.invariant-loop-place
invariant-loop-place l = CountsLiveBatches IsRecordBatch (take l.place (fresh_in l.self)) l.fn.live l.live
