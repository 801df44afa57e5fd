use Rattle.derive_walk.proofs.CallLemmas.{once}
use Rattle.derive_walk.proofs.wanted.Wanted.add.Goals as goal

pub invariant_of-self : goal.invariant_of-self
invariant_of-self c = once _ c.insert.ensures.unique

pub invariant_of-self-2 : goal.invariant_of-self-2
invariant_of-self-2 c = once _ c.insert.ensures.unique
