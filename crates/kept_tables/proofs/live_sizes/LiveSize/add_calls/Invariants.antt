use Rattle.std.proofs.Common.{take}
use Rattle.meaning_records.specs.Live.{IsKeptBatch}
use Rattle.kept_tables.specs.Batching.{CountsLiveBatches}
use Rattle.kept_tables.specs.Holdings.{kept_calls_of}
use Rattle.kept_tables.proofs.live_sizes.LiveSize.add_calls.Given as goal

abbrev pub invariant-loop-kept : goal.invariant-loop-kept
invariant-loop-kept l = CountsLiveBatches IsKeptBatch (kept_calls_of (take l.kept-index l.calls)) l.fn.self l.self
