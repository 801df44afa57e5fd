use Rattle.odin_answers.proofs.OnceLemmas.{its_own, reply_starts, begun_starts}
use Rattle.odin_answers.proofs.laws.calls_are_its_own.Goals as goal

pub returns-clause-came : goal.returns-clause-came
returns-clause-came c = its_own

pub returns-clause-started : goal.returns-clause-started
returns-clause-started c = record { replied = reply_starts; begun = begun_starts }
