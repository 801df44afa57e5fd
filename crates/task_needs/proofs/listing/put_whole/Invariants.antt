use Rattle.std.proofs.Common.{◌≡◌, ◌++◌, take, flat_map}
use Rattle.meaning_tasks.specs.Needs.{values_of, with_elements}
use Rattle.task_needs.proofs.listing.put_whole.Given as goal

abbrev pub invariant-loop-node : goal.invariant-loop-node
invariant-loop-node g l = l.needs ≡ l.initial.needs ++ flat_map (with_elements (values_of (g.R.Results.results l.seen))) (take l.node-index l.nodes)
