-- The distances up to the level.
use Rattle.path_planner.specs.Near.{IsAtLevel}
use Rattle.path_planner.proofs.distances.distances.Given as goal

abbrev pub invariant-loop-level : goal.invariant-loop-level
invariant-loop-level l = IsAtLevel l.graph l.to l.level l.search.near.items l.search.front.items
