use Rattle.meaning_derive.proofs.Founded.{result_call_or_chain as one_of, no_chain}
use Rattle.meaning_derive.proofs.laws.result_call_or_chain.Goals as goal

pub returns-clause-one : goal.returns-clause-one
returns-clause-one c = one_of

pub returns-clause-apart : goal.returns-clause-apart
returns-clause-apart c = no_chain
