use Rattle.std.proofs.Common.{◌≡◌, take, true}
use Rattle.meaning_tasks.specs.Needs.{values_of}
use Rattle.meaning_tasks.specs.Calls.{all_valued}
use Rattle.task_needs.proofs.known.all_valued.Given as goal

abbrev pub invariant-loop-node : goal.invariant-loop-node
invariant-loop-node g l = all_valued (values_of (g.R.Results.results l.seen)) (take l.node-index l.nodes) ≡ true
