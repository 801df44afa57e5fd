use Rattle.std.proofs.Common.{◌≡◌, take}
use Rattle.std.specs.Prelude.{Some}
use Rattle.meaning_records.specs.Batches.{AreRecordsOf, needed_values}
use Rattle.kept_contents.specs.Added.{AddsAll, AreHeld, contents_with}
use Rattle.kept_contents.specs.Stocks.{IsGrownFrom, values_of_contents}
use Rattle.kept_notes.specs.Numbered.{notes_of}
use Rattle.kept_notes.proofs.numbering.number_records.Given as goal

abbrev pub invariant-loop-node : goal.invariant-loop-node
invariant-loop-node l =
    AreRecordsOf (contents_with l.table.contents l.added) l.stored (take l.node-index l.fresh)
    × (l.notes.items ≡ notes_of (Some l.epoch) l.stored (take l.node-index l.fresh))
    × AddsAll l.fn.table.contents (needed_values (take l.node-index l.fresh)) (values_of_contents l.fn.added) (values_of_contents l.added)
    × AreHeld l.table.texts l.added
    × (l.table.contents ≡ l.fn.table.contents)
    × IsGrownFrom l.fn.table.texts l.table.texts
