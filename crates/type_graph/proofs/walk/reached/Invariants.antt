-- The walk so far.
use Rattle.std.proofs.Common.{◌+◌, length}
use Rattle.type_graph.specs.Walks.{unmarked}
use Rattle.type_graph.proofs.WalkLemmas.{IsWalk}
use Rattle.type_graph.proofs.walk.reached.Given as goal

abbrev pub invariant-loop-number : goal.invariant-loop-number
invariant-loop-number l = IsWalk l.supers l.starts l.walk.marked.items l.walk.todo.items

abbrev pub decreases-loop-number : goal.decreases-loop-number
decreases-loop-number l = unmarked l.walk.marked.items + length l.walk.todo.items
