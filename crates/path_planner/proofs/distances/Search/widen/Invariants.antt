-- So many types in front are looked at.
use Rattle.std.proofs.Common.{ℕ, take, length, ◌≡◌}
use Rattle.meaning_graph.specs.Graphs.{types}
use Rattle.path_planner.specs.Near.{IsAtLevel, IsBetween}
use Rattle.path_planner.proofs.distances.Search.widen.Given as goal

abbrev pub invariant-loop-number : goal.invariant-loop-number
invariant-loop-number l =
    (length l.self.near.items ≡ length (types l.graph))
    × ((to : ℕ) → IsAtLevel l.graph to l.level l.fn.self.near.items l.fn.self.front.items → IsBetween l.graph to l.level l.fn.self.front.items (take l.number-index l.number-items) l.self.near.items l.self.front.items)
