use Rattle.meaning_tasks.proofs.AnySources.{settles_over_any}
use Rattle.meaning_tasks.proofs.laws.settles_over_any_sources.Goals as goal

pub returns : goal.returns
returns c = settles_over_any
