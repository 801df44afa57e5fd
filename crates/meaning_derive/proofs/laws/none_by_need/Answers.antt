use Rattle.meaning_derive.proofs.Carry.{none_by_need as by_need, none_by_call, one_run}
use Rattle.meaning_derive.proofs.Above.{height_above}
use Rattle.meaning_derive.proofs.laws.none_by_need.Goals as goal

pub returns-clause-need : goal.returns-clause-need
returns-clause-need c = by_need

pub returns-clause-above : goal.returns-clause-above
returns-clause-above c = height_above

pub returns-clause-call : goal.returns-clause-call
returns-clause-call c = none_by_call

pub returns-clause-one : goal.returns-clause-one
returns-clause-one c = one_run
