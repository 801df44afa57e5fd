use Rattle.meaning_derive.proofs.Maps.{needs_fit as fitted}
use Rattle.meaning_derive.proofs.checked_laws.needs_fit.Goals as goal

pub returns : goal.returns
returns c = fitted
