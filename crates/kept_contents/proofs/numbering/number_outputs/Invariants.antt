use Rattle.std.proofs.Common.{◌≡◌, take}
use Rattle.meaning_records.specs.Tables.{AreOutputsOf}
use Rattle.kept_contents.specs.Added.{AreHeld, AddsTexts, contents_with, texts_of_outputs}
use Rattle.kept_contents.specs.Stocks.{IsGrownFrom, values_of_contents}
use Rattle.kept_contents.proofs.numbering.number_outputs.Given as goal

abbrev pub invariant-loop-output : goal.invariant-loop-output
invariant-loop-output l =
    AreOutputsOf (contents_with l.table.contents l.added) l.stored (take l.output-index l.outputs)
    × AddsTexts l.fn.table.contents (texts_of_outputs (take l.output-index l.outputs)) (values_of_contents l.fn.added) (values_of_contents l.added)
    × AreHeld l.table.texts l.added
    × (l.table.contents ≡ l.fn.table.contents)
    × IsGrownFrom l.fn.table.texts l.table.texts
