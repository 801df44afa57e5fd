use Rattle.std.proofs.Common.{◌≡◌, take}
use Rattle.kept_contents.specs.Added.{AddsTexts, AreHeld, contents_with, texts_of_outputs}
use Rattle.kept_contents.specs.Stocks.{values_of_contents}
use Rattle.kept_tables.specs.Batching.{CountsOutputs}
use Rattle.kept_tables.proofs.item_sizes.count_outputs.Given as goal

abbrev pub invariant-loop-output : goal.invariant-loop-output
invariant-loop-output l = record {
  outputs : CountsOutputs (contents_with l.table.contents l.added) (take l.output-index l.outputs) l.size;
  adds : AddsTexts l.fn.table.contents (texts_of_outputs (take l.output-index l.outputs)) (values_of_contents l.fn.added) (values_of_contents l.added);
  held : AreHeld l.table.texts l.added;
  contents : l.table.contents ≡ l.fn.table.contents;
}
