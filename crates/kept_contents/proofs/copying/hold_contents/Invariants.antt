use Rattle.std.proofs.Common.{◌≡◌, take}
use Rattle.kept_contents.specs.Added.{AreHeld}
use Rattle.kept_contents.specs.Stocks.{IsGrownFrom, values_of_contents}
use Rattle.kept_contents.proofs.copying.hold_contents.Given as goal

abbrev pub invariant-loop-content : goal.invariant-loop-content
invariant-loop-content l = record {
  same : values_of_contents l.shared.items ≡ values_of_contents (take l.content-index l.contents);
  held : AreHeld l.table.texts l.shared.items;
  contents : l.table.contents ≡ l.fn.table.contents;
  grown : IsGrownFrom l.fn.table.texts l.table.texts;
}
