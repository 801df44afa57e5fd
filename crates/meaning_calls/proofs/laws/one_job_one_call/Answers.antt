use Rattle.meaning_calls.proofs.Jobs.{one_job_one_call as one_call}
use Rattle.meaning_calls.proofs.laws.one_job_one_call.Goals as goal

pub returns : goal.returns
returns c = one_call
