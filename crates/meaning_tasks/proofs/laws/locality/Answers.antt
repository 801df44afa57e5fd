use Rattle.meaning_tasks.proofs.Local.{local}
use Rattle.meaning_tasks.proofs.laws.locality.Goals as goal

pub returns : goal.returns
returns c = local
