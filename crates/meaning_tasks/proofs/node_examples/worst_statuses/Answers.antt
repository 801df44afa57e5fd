use Rattle.std.proofs.Common.{refl}
use Rattle.meaning_tasks.proofs.node_examples.worst_statuses.Goals as goal

pub returns : goal.returns
returns c = record { later = refl; earlier = refl; alike = refl }
