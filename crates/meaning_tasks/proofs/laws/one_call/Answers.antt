use Rattle.meaning_tasks.proofs.Carry.{one_call as one}
use Rattle.meaning_tasks.proofs.laws.one_call.Goals as goal

pub returns : goal.returns
returns c = one
