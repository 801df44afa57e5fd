use Rattle.std.proofs.Common.{take}
use Rattle.meaning_records.specs.Live.{IsRecordBatch}
use Rattle.kept_contents.specs.Stocks.{values_of_contents}
use Rattle.kept_tables.specs.Batching.{AddsLiveBatches}
use Rattle.kept_tables.specs.Holdings.{fresh_in}
use Rattle.kept_tables.specs.Live.{AreCopied, epochs_of}
use Rattle.kept_tables.proofs.kept.Kept.add_records.Given as goal

abbrev pub invariant-loop-place : goal.invariant-loop-place
invariant-loop-place l = record {
  adds : AddsLiveBatches IsRecordBatch (take l.place (fresh_in l.self)) l.fn.live l.live;
  notes : AreCopied (values_of_contents l.live.added) (take l.place (fresh_in l.self)) (take l.place (epochs_of l.self.records.records)) l.notes.items;
}
