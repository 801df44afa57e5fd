use Rattle.std.proofs.Common.{◌≡◌, take, map}
use Rattle.meaning_tasks.specs.Settle.{labelled}
use Rattle.node_tasks.proofs.outcome.labelled.Given as goal

abbrev pub invariant-loop-line : goal.invariant-loop-line
invariant-loop-line l = l.messages ≡ map (labelled l.shared) (take l.line-index l.lines)
