-- The makers so far, and those that are left.
use Rattle.std.proofs.Common.{◌≡◌, ◌++◌, drop}
use Rattle.path_planner.specs.Ends.{ends_in, takers_from, takers_of}
use Rattle.path_planner.proofs.takers.takers_of.Given as goal

abbrev pub invariant-loop-number : goal.invariant-loop-number
invariant-loop-number l = l.takers ++ takers_from l.graph l.a (drop l.number (ends_in l.graph)) l.number ≡ takers_of l.graph l.a
