use Rattle.derive_walk.proofs.Formed.{found_fits, wanted_formed, right_is_formed}
use Rattle.derive_walk.proofs.laws.all_is_formed.Goals as goal

pub returns-clause-nodes : goal.returns-clause-nodes
returns-clause-nodes c = found_fits

pub returns-clause-calls : goal.returns-clause-calls
returns-clause-calls c = wanted_formed

pub returns-clause-walks : goal.returns-clause-walks
returns-clause-walks c = right_is_formed
