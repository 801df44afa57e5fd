use Rattle.meaning_tasks.proofs.Grow.{need_stays}
use Rattle.meaning_tasks.proofs.laws.needs_grow.Goals as goal

pub returns : goal.returns
returns c = need_stays
