use Rattle.std.proofs.Common.{refl}
use Rattle.std.specs.Fmt.{digits}
use Rattle.meaning_calls.specs.Jobs.{job_of}
use Rattle.meaning_calls.proofs.examples.jobs_of_calls.Goals as goal

pub returns : goal.returns
unfolding job_of digits
returns c = record { loop = refl; absent = refl; params = refl }
