use Rattle.meaning_derive.proofs.Over.{met_fit as met}
use Rattle.meaning_derive.proofs.checked_laws.met_fit.Goals as goal

pub returns : goal.returns
returns c = met
