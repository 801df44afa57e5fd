use Rattle.std.proofs.Common.{take}
use Rattle.derive_walk.specs.Surveys.{TakesInNodes}
use Rattle.derive_walk.proofs.survey.Survey.add_all.Given as goal

abbrev pub invariant-loop-node : goal.invariant-loop-node
invariant-loop-node l = TakesInNodes l.done l.waiting (take l.node-index l.nodes) l.initial.self l.self
