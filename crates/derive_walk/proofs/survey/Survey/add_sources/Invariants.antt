use Rattle.std.proofs.Common.{map, take}
use Rattle.meaning_tasks.specs.Nodes.{source_node}
use Rattle.derive_walk.specs.Surveys.{TakesInNodes}
use Rattle.derive_walk.proofs.survey.Survey.add_sources.Given as goal

abbrev pub invariant-loop-name : goal.invariant-loop-name
invariant-loop-name l = TakesInNodes l.done l.waiting (map source_node (take l.name-index l.names)) l.initial.self l.self
