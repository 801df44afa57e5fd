use Rattle.meaning_derive.specs.Given.{AreSources}
use Rattle.task_tests.proofs.derived.sources_of.Given as goal

abbrev pub invariant-loop-name : goal.invariant-loop-name
invariant-loop-name l = AreSources l.sources.texts
