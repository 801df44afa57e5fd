use Rattle.derive_walk.proofs.KnowingLemmas.{told_known}
use Rattle.derive_walk.proofs.laws.told_is_known.Goals as goal

pub returns : goal.returns
returns c = told_known
