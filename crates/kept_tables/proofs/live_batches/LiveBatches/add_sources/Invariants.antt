use Rattle.std.proofs.Common.{take}
use Rattle.std.specs.FinMap as names
use Rattle.meaning_records.specs.Live.{IsSourceBatch}
use Rattle.kept_tables.specs.Batching.{AddsLiveBatches}
use Rattle.kept_tables.proofs.live_batches.LiveBatches.add_sources.Given as goal

abbrev pub invariant-loop-place : goal.invariant-loop-place
invariant-loop-place l = AddsLiveBatches IsSourceBatch (take l.place (names.entries l.sources.texts)) l.fn.self l.self
