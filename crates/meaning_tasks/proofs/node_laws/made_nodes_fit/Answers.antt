use Rattle.meaning_tasks.proofs.Made.{made_fits, onward_fits}
use Rattle.meaning_tasks.proofs.node_laws.made_nodes_fit.Goals as goal

pub returns-clause-made : goal.returns-clause-made
returns-clause-made c = made_fits

pub returns-clause-onward : goal.returns-clause-onward
returns-clause-onward c = onward_fits
