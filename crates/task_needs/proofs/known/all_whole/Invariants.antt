use Rattle.std.proofs.Common.{◌≡◌, take, true}
use Rattle.std.specs.List.{list_all}
use Rattle.object_values.specs.declared.nodes.Node.{Node}
use Rattle.meaning_tasks.specs.Needs.{values_of, with_elements}
use Rattle.meaning_tasks.specs.Calls.{all_valued}
use Rattle.task_needs.proofs.known.all_whole.Given as goal

abbrev pub invariant-loop-node : goal.invariant-loop-node
invariant-loop-node g l =
    list_all (λ (n : Node). all_valued (values_of (g.R.Results.results l.seen)) (with_elements (values_of (g.R.Results.results l.seen)) n)) (take l.node-index l.nodes) ≡ true
