use Rattle.meaning_derive.proofs.Lower.{falls}
use Rattle.meaning_derive.proofs.laws.chains_fall.Goals as goal

pub returns : goal.returns
returns c = falls
