use Rattle.plain_derive.proofs.MadeLemmas.{found_by_all as by_all}
use Rattle.plain_derive.proofs.laws.found_by_all.Goals as goal

pub returns : goal.returns
returns c = by_all
