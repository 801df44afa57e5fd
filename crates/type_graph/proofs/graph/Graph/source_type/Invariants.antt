-- What is left of the name has the same suffix.
use Rattle.std.proofs.Common.{◌≡◌, length}
use Rattle.meaning_graph.specs.Suffixes.{suffix_of}
use Rattle.type_graph.proofs.graph.Graph.source_type.Given as goal

abbrev pub invariant-loop-place : goal.invariant-loop-place
invariant-loop-place l = suffix_of l.self l.name ≡ suffix_of l.self l.rest

abbrev pub decreases-loop-place : goal.decreases-loop-place
decreases-loop-place l = length l.rest
