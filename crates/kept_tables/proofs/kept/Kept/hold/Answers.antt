use Rattle.kept_tables.proofs.HeldLemmas.{kept_grown}
use Rattle.kept_tables.proofs.RecordLemmas.{records_as}
use Rattle.kept_tables.proofs.kept.Kept.hold.Goals as goal

pub invariant_of-self : goal.invariant_of-self
invariant_of-self c = (
  kept_grown c.self.inside.heads c.hold.new.heads c.self.inside.contents.texts c.hold.new.table.texts c.self.inside.calls c.hold.ensures.more
      c.hold.ensures.texts c.self.invariant.0,
  records_as c.self.inside.contents.contents c.hold.new.table.contents c.self.inside.records.records c.hold.ensures.contents c.self.invariant.1,
)
