use Rattle.kept_contents.proofs.Lemmas.{grown_not}
use Rattle.kept_tables.proofs.HeldLemmas.{kept_grown}
use Rattle.kept_tables.proofs.kept.Kept.call_of.Goals as goal

pub invariant_of-self : goal.invariant_of-self
invariant_of-self c = (
  kept_grown c.self.inside.heads c.call_of.new.heads c.self.inside.contents.texts c.self.inside.contents.texts c.self.inside.calls
      c.call_of.ensures.more (grown_not c.self.inside.contents.texts) c.self.invariant.0,
  c.self.invariant.1,
)
