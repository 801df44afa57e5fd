use Rattle.meaning_derive.proofs.Over.{settles_well as well}
use Rattle.meaning_derive.proofs.checked_laws.settles_well.Goals as goal

pub returns : goal.returns
returns c = well
