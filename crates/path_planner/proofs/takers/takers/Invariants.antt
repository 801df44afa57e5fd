-- The rows so far.
use Rattle.std.proofs.Common.{◌≡◌}
use Rattle.path_planner.specs.Ends.{rows_of, takers_of}
use Rattle.path_planner.proofs.takers.takers.Given as goal

abbrev pub invariant-loop-a : goal.invariant-loop-a
invariant-loop-a l = l.takers ≡ rows_of (takers_of l.graph) l.a
