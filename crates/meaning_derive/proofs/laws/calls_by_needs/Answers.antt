use Rattle.meaning_derive.proofs.CallsByNeeds.{calls_by_needs as by_needs}
use Rattle.meaning_derive.proofs.laws.calls_by_needs.Goals as goal

pub returns : goal.returns
returns c = by_needs
