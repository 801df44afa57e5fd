use Rattle.std.proofs.Common.{◌≡◌, ◌≤◌, length}
use Rattle.std.specs.Vec.Iter.{into_iter_items}
use Rattle.kept_records.specs.Records.{put_records}
use Rattle.kept_records.proofs.table.RecordTable.put_all.Given as goal

abbrev pub invariant-loop-record : goal.invariant-loop-record
invariant-loop-record l =
    (goal.iterator-loop-record).can_next l.record-iterator
    × (goal.iterator-loop-record).is_finite l.record-iterator
    × (length (into_iter_items l.record-iterator) ≤ l.self.room)
    × (put_records (into_iter_items l.record-iterator) l.self.records ≡ put_records l.fn.noted.items l.fn.self.records)
