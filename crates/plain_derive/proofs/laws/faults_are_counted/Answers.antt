use Rattle.plain_derive.proofs.LogLemmas.{uncounted, given_up_counted}
use Rattle.plain_derive.proofs.laws.faults_are_counted.Goals as goal

pub returns-clause-made : goal.returns-clause-made
returns-clause-made c = uncounted

pub returns-clause-given_up : goal.returns-clause-given_up
returns-clause-given_up c = given_up_counted
