use Rattle.kept_tables.proofs.HeldLemmas.{kept_texts}
use Rattle.kept_tables.proofs.RecordLemmas.{records_as}
use Rattle.kept_tables.proofs.kept.Kept.number_records.Goals as goal

pub invariant_of-self : goal.invariant_of-self
invariant_of-self c = (
  kept_texts c.self.inside.heads c.self.inside.contents.texts c.number_records.new.table.texts c.self.inside.calls c.number_records.ensures.texts
      c.self.invariant.0,
  records_as c.self.inside.contents.contents c.number_records.new.table.contents c.self.inside.records.records c.number_records.ensures.contents
      c.self.invariant.1,
)
