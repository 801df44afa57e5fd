-- The rows have what so many rounds give.
use Rattle.type_graph.proofs.ClosingLemmas.{IsCloserBy}
use Rattle.type_graph.proofs.rows.close.Given as goal

abbrev pub invariant-loop-round : goal.invariant-loop-round
invariant-loop-round l = IsCloserBy l.supers l.width l._round l.words
