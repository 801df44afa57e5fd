use Rattle.kept_tables.proofs.RecordLemmas.{none_noted}
use Rattle.kept_tables.proofs.kept.Kept.forget_records.Goals as goal

pub invariant_of-self : goal.invariant_of-self
invariant_of-self c = (
  c.self.invariant.0,
  rw c.forget.ensures.forgotten (none_noted c.self.inside.contents.contents c.self.inside.records.records c.self.invariant.1),
)
