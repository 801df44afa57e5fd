-- The types so far are added where they are the one.
use Rattle.path_planner.specs.Near.{AddsBelow}
use Rattle.path_planner.proofs.sources.add_below.Given as goal

abbrev pub invariant-loop-a : goal.invariant-loop-a
invariant-loop-a l = AddsBelow l.graph l.of l.a l.initial.sources l.sources
