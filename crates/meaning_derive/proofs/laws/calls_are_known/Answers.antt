use Rattle.meaning_derive.proofs.Known.{known, no_frontier, none_come}
use Rattle.meaning_derive.proofs.laws.calls_are_known.Goals as goal

pub returns-clause-known : goal.returns-clause-known
returns-clause-known c = known

pub returns-clause-frontier : goal.returns-clause-frontier
returns-clause-frontier c = no_frontier

pub returns-clause-none : goal.returns-clause-none
returns-clause-none c = none_come
