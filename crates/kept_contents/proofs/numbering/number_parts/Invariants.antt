use Rattle.std.proofs.Common.{◌≡◌, take}
use Rattle.meaning_records.specs.Tables.{ArePartsOf}
use Rattle.kept_contents.specs.Added.{AreHeld, AddsTexts, contents_with, texts_of_parts}
use Rattle.kept_contents.specs.Stocks.{IsGrownFrom, values_of_contents}
use Rattle.kept_contents.proofs.numbering.number_parts.Given as goal

abbrev pub invariant-loop-part : goal.invariant-loop-part
invariant-loop-part l =
    ArePartsOf (contents_with l.table.contents l.added) l.stored (take l.part-index l.parts)
    × AddsTexts l.fn.table.contents (texts_of_parts (take l.part-index l.parts)) (values_of_contents l.fn.added) (values_of_contents l.added)
    × AreHeld l.table.texts l.added
    × (l.table.contents ≡ l.fn.table.contents)
    × IsGrownFrom l.fn.table.texts l.table.texts
