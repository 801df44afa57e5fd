use Rattle.kept_records.proofs.PlaceLemmas.{records_kept}
use Rattle.kept_records.proofs.table.RecordTable.reserve.Goals as goal

pub invariant_of-self-2 : goal.invariant_of-self-2
invariant_of-self-2 c = rw c.reserve.ensures.items (records_kept c.self.inside.records.items c.self.inside.marks c.self.invariant c.reserve_more.new.self c.reserve_more.ensures.kept)
