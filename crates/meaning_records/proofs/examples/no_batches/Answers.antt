use Rattle.std.proofs.Common.{[], ◌∷◌, ◌++◌, codes, arith}
use Rattle.object_values.specs.declared.items.Item.TheVariants.{Graph}
use Rattle.meaning_records.specs.ByteExamples.{text}
use Rattle.meaning_records.proofs.RecordFronts.{no_item_zero}
use Rattle.meaning_records.proofs.Refusals.{unbatched, none_read, no_front, no_batch_behind, longer_never, shorter_never, unnamed_never, cut_never}
use Rattle.meaning_records.proofs.examples.no_batches.Goals as goal

pub returns : goal.returns
returns c = record {
  empty = none_read;
  cut = cut_never;
  behind = unbatched (1 ∷ text 1 (codes "g") ++ 0 ∷ []) (no_batch_behind (Graph (codes "g")) (0 ∷ []) (omega arith) (no_front 0 [] (no_item_zero [])));
  longer = longer_never;
  shorter = shorter_never;
  no_value = unnamed_never;
}
