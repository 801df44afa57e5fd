-- The types so far are themselves.
use Rattle.type_graph.proofs.BitLemmas.{AreOwnTo}
use Rattle.type_graph.proofs.rows.mark_own.Given as goal

abbrev pub invariant-loop-number : goal.invariant-loop-number
invariant-loop-number l = AreOwnTo l.count l.width l.number l.words
