-- The types so far have their lists.
use Rattle.path_planner.specs.Near.{AreSourcesTo}
use Rattle.path_planner.proofs.sources.sources.Given as goal

abbrev pub invariant-loop-to : goal.invariant-loop-to
invariant-loop-to l = AreSourcesTo l.graph l.to l.sources
