use Rattle.meaning_tasks.proofs.Carry.{carry, full_needs_stay}
use Rattle.meaning_tasks.proofs.laws.needs_carry.Goals as goal

pub returns-clause-carried : goal.returns-clause-carried
returns-clause-carried c = carry

pub returns-clause-full : goal.returns-clause-full
returns-clause-full c = full_needs_stay
