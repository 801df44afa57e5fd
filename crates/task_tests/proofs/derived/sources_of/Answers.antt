use Rattle.task_tests.proofs.SourceLemmas.{none_are}
use Rattle.task_tests.proofs.derived.sources_of.Goals as goal

pub loop-name-init : goal.loop-name-init
loop-name-init c = none_are _ c.new-sources.ensures
