use Rattle.kept_tables.proofs.HeldLemmas.{kept_alike}
use Rattle.kept_tables.proofs.kept.Kept.keep.Goals as goal

pub invariant_of-self : goal.invariant_of-self
invariant_of-self c = (
  kept_alike c.self.inside.heads c.self.inside.contents.texts c.self.inside.calls c.reserve.new.self c.reserve.ensures.entries
      c.reserve.ensures.marks c.self.invariant.0,
  c.self.invariant.1,
)

pub invariant_of-self-2 : goal.invariant_of-self-2
invariant_of-self-2 c = (
  kept_alike c.self.inside.heads c.self.inside.contents.texts c.self.inside.calls c.reserve.new.self c.reserve.ensures.entries
      c.reserve.ensures.marks c.self.invariant.0,
  c.self.invariant.1,
)
