use Rattle.meaning_derive.proofs.Heights.{one_above}
use Rattle.meaning_derive.proofs.laws.height_by_needs.Goals as goal

pub returns : goal.returns
returns c = one_above
