-- What rows have passes on through the types so far.
use Rattle.std.proofs.Common.{length}
use Rattle.type_graph.specs.Rows.{RowsGrow, PassesBelow}
use Rattle.type_graph.proofs.rows.add_through_all.Given as goal

abbrev pub invariant-loop-through : goal.invariant-loop-through
invariant-loop-through l = RowsGrow l.supers l.width l.initial.words l.words × PassesBelow l.through (length l.supers) l.width l.words
