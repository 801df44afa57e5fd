-- The numbers so far are marked.
use Rattle.std.proofs.Common.{take}
use Rattle.type_graph.specs.Walks.{Marks, walk_view}
use Rattle.type_graph.proofs.walk.Walk.mark_all.Given as goal

abbrev pub invariant-loop-number : goal.invariant-loop-number
invariant-loop-number l = Marks (walk_view l.initial.self) (take l.number-index l.numbers) (walk_view l.self)
