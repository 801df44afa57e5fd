-- The rows so far.
use Rattle.std.proofs.Common.{◌≡◌}
use Rattle.path_planner.specs.Ends.{nears_to}
use Rattle.path_planner.proofs.plans.nears_in.Given as goal

abbrev pub invariant-loop-to : goal.invariant-loop-to
invariant-loop-to l = l.nears ≡ nears_to l.graph l.to
