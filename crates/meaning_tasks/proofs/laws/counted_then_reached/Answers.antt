use Rattle.meaning_tasks.proofs.Roles.{needs_split}
use Rattle.meaning_tasks.proofs.laws.counted_then_reached.Goals as goal

pub returns : goal.returns
returns c = needs_split
