use Rattle.std.proofs.Common.{take}
use Rattle.meaning_records.specs.Live.{IsKeptBatch}
use Rattle.kept_tables.specs.Batching.{AddsLiveBatches}
use Rattle.kept_tables.proofs.kept.Kept.add_calls.Given as goal

abbrev pub invariant-loop-place : goal.invariant-loop-place
invariant-loop-place l = AddsLiveBatches IsKeptBatch (take l.place l.self.tables.calls) l.fn.live l.live
