use Rattle.std.proofs.Common.{◌≡◌, take}
use Rattle.kept_contents.specs.Added.{AddsTexts, AreHeld, contents_with, texts_of_parts}
use Rattle.kept_contents.specs.Stocks.{values_of_contents}
use Rattle.kept_tables.specs.Batching.{CountsParts}
use Rattle.kept_tables.proofs.item_sizes.count_parts.Given as goal

abbrev pub invariant-loop-part : goal.invariant-loop-part
invariant-loop-part l = record {
  parts : CountsParts (contents_with l.table.contents l.added) (take l.part-index l.parts) l.size;
  adds : AddsTexts l.fn.table.contents (texts_of_parts (take l.part-index l.parts)) (values_of_contents l.fn.added) (values_of_contents l.added);
  held : AreHeld l.table.texts l.added;
  contents : l.table.contents ≡ l.fn.table.contents;
}
