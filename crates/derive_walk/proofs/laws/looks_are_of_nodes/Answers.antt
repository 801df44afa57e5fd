use Rattle.derive_walk.proofs.LookedLemmas.{looked_at, all_looked}
use Rattle.derive_walk.proofs.laws.looks_are_of_nodes.Goals as goal

pub returns-clause-nodes : goal.returns-clause-nodes
returns-clause-nodes c = looked_at

pub returns-clause-all : goal.returns-clause-all
returns-clause-all c = all_looked
