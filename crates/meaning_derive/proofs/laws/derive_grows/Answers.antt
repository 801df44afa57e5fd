use Rattle.meaning_derive.proofs.Steps.{derive_grows as grows}
use Rattle.meaning_derive.proofs.laws.derive_grows.Goals as goal

pub returns : goal.returns
returns c = grows
