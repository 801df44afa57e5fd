use Rattle.meaning_derive.proofs.HeightsStay.{height_stays, same_height}
use Rattle.meaning_derive.proofs.laws.heights_stay.Goals as goal

pub returns-clause-each : goal.returns-clause-each
returns-clause-each c = height_stays

pub returns-clause-height : goal.returns-clause-height
returns-clause-height c = same_height
