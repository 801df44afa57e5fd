use Rattle.meaning_derive.proofs.Heights.{settles_again as again}
use Rattle.meaning_derive.proofs.laws.settles_again.Goals as goal

pub returns : goal.returns
returns c = again
