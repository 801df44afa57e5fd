use Rattle.meaning_derive.proofs.HeightsStay.{frontier_stays as stays}
use Rattle.meaning_derive.proofs.laws.frontier_stays.Goals as goal

pub returns : goal.returns
returns c = stays
