use Rattle.std.proofs.Common.{take}
use Rattle.task_needs.specs.TakingOver.{TakesOver}
use Rattle.task_needs.proofs.taken.Taken.take_all.Given as goal

abbrev pub invariant-loop-node : goal.invariant-loop-node
invariant-loop-node g l = TakesOver (g.R.Results.results l.seen) (take l.node-index l.nodes) l.initial.self l.self
