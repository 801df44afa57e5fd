-- The names so far are all different.
use Rattle.type_graph.proofs.TwiceLemmas.{AreApart}
use Rattle.type_graph.proofs.doubles.a_name_twice.Given as goal

abbrev pub invariant-loop-place : goal.invariant-loop-place
invariant-loop-place l = AreApart l.uses l.place l.names
