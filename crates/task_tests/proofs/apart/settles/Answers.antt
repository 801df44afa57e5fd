-- The graph with its plans is seen as the graph.
use Rattle.task_tests.proofs.apart.settles.Goals as goal

pub needs-requires-clause-fits : goal.needs-requires-clause-fits
needs-requires-clause-fits c = rw c.new-planned.ensures at c.in_ok-node.ensures

pub call_for-requires-clause-fits : goal.call_for-requires-clause-fits
call_for-requires-clause-fits c = rw c.new-planned.ensures at c.in_ok-node.ensures

pub settle-requires-clause-fits : goal.settle-requires-clause-fits
settle-requires-clause-fits c = rw c.new-planned.ensures at c.in_ok-node.ensures
