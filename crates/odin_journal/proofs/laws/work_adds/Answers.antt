use Rattle.odin_journal.specs.WorkLemmas.{no_work, more_work, add_work}
use Rattle.odin_journal.proofs.laws.work_adds.Goals as goal

pub returns : goal.returns
returns c = record { adds = add_work; none = no_work; wider = more_work }
