-- The rows so far are passed.
use Rattle.type_graph.specs.Rows.{Passes}
use Rattle.type_graph.proofs.rows.add_through.Given as goal

abbrev pub invariant-loop-number : goal.invariant-loop-number
invariant-loop-number l = Passes l.count l.width l.through l.number l.initial.words l.words
