use Rattle.meaning_derive.proofs.Falling.{none_refused as none}
use Rattle.meaning_derive.proofs.laws.none_refused.Goals as goal

pub returns : goal.returns
returns c = none
