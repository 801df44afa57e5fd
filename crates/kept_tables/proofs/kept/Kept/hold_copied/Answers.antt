use Rattle.std.proofs.Common.{◌∙◌}
use Rattle.kept_tables.proofs.HeldLemmas.{kept_texts}
use Rattle.kept_tables.proofs.RecordLemmas.{records_as}
use Rattle.kept_tables.proofs.kept.Kept.hold_copied.Goals as goal

pub invariant_of-self : goal.invariant_of-self
invariant_of-self c = (
  kept_texts c.self.inside.heads c.self.inside.contents.texts c.share_contents.new.table.texts c.self.inside.calls c.share_contents.ensures.grown
      c.self.invariant.0,
  records_as c.self.inside.contents.contents c.share_contents.new.table.contents c.self.inside.records.records c.share_contents.ensures.contents c.self.invariant.1,
)

pub invariant_of-self-then-len : goal.invariant_of-self-then-len
invariant_of-self-then-len c = (
  kept_texts c.self.inside.heads c.self.inside.contents.texts c.share_contents.new.table.texts c.self.inside.calls c.share_contents.ensures.grown
      c.self.invariant.0,
  records_as c.self.inside.contents.contents c.share_contents.new.table.contents c.self.inside.records.records c.share_contents.ensures.contents c.self.invariant.1,
)

pub invariant_of-self-in_err-reserve : goal.invariant_of-self-in_err-reserve
invariant_of-self-in_err-reserve c = (
  rw c.reserve.ensures.texts
      (kept_texts c.self.inside.heads c.self.inside.contents.texts c.share_contents.new.table.texts c.self.inside.calls c.share_contents.ensures.grown
      c.self.invariant.0),
  records_as c.self.inside.contents.contents c.reserve.new.self.contents c.self.inside.records.records
      (c.reserve.ensures.contents ∙ c.share_contents.ensures.contents) c.self.invariant.1,
)

pub invariant_of-self-2 : goal.invariant_of-self-2
invariant_of-self-2 c = (
  rw c.reserve.ensures.texts
      (kept_texts c.self.inside.heads c.self.inside.contents.texts c.share_contents.new.table.texts c.self.inside.calls c.share_contents.ensures.grown
      c.self.invariant.0),
  records_as c.self.inside.contents.contents c.reserve.new.self.contents c.self.inside.records.records
      (c.reserve.ensures.contents ∙ c.share_contents.ensures.contents) c.self.invariant.1,
)
