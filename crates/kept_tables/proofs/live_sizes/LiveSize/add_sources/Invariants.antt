use Rattle.std.proofs.Common.{take}
use Rattle.std.specs.FinMap as names
use Rattle.meaning_records.specs.Live.{IsSourceBatch}
use Rattle.kept_tables.specs.Batching.{CountsLiveBatches}
use Rattle.kept_tables.proofs.live_sizes.LiveSize.add_sources.Given as goal

abbrev pub invariant-loop-place : goal.invariant-loop-place
invariant-loop-place l = CountsLiveBatches IsSourceBatch (take l.place (names.entries l.sources.texts)) l.fn.self l.self
