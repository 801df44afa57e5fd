-- The names so far are all different.
use Rattle.std.proofs.Common.{map}
use Rattle.object_values.specs.declared.graph.PartDecl.{PartDecl}
use Rattle.type_graph.proofs.TwiceLemmas.{AreApart}
use Rattle.type_graph.proofs.doubles.a_part_twice.Given as goal

abbrev pub invariant-loop-place : goal.invariant-loop-place
invariant-loop-place l = AreApart (map (λ (part : PartDecl). part.name) l.parts) l.place l.names
