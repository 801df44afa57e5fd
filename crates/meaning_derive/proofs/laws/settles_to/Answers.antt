use Rattle.meaning_derive.proofs.Carry.{settles_to as to}
use Rattle.meaning_derive.proofs.laws.settles_to.Goals as goal

pub returns : goal.returns
returns c = to
