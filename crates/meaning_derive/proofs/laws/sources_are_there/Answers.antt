use Rattle.meaning_derive.proofs.Lower.{sources_are_there as there}
use Rattle.meaning_derive.proofs.laws.sources_are_there.Goals as goal

pub returns : goal.returns
returns c = there
