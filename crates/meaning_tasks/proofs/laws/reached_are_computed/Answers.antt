use Rattle.meaning_tasks.proofs.Reached.{all_reached}
use Rattle.meaning_tasks.proofs.laws.reached_are_computed.Goals as goal

pub returns : goal.returns
returns c = all_reached
