use Rattle.std.proofs.Common.{flat_map, take}
use Rattle.meaning_tasks.specs.Needs.{values_of, with_elements}
use Rattle.derive_walk.specs.Surveys.{TakesInNodes}
use Rattle.derive_walk.specs.Tables.{results_of}
use Rattle.derive_walk.proofs.survey.Survey.add_whole.Given as goal

abbrev pub invariant-loop-node : goal.invariant-loop-node
invariant-loop-node l = TakesInNodes l.done l.waiting (flat_map (with_elements (values_of (results_of l.done))) (take l.node-index l.nodes)) l.initial.self l.self
