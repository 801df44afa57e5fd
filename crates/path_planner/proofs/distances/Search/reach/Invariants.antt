-- The types so far have a distance.
use Rattle.std.proofs.Common.{take}
use Rattle.path_planner.specs.Near.{Reaches}
use Rattle.path_planner.proofs.distances.Search.reach.Given as goal

abbrev pub invariant-loop-number : goal.invariant-loop-number
invariant-loop-number l = Reaches l.distance (take l.number-index l.numbers) l.initial.self.near.items l.initial.self.front.items l.self.near.items l.self.front.items
