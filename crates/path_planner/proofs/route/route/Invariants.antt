-- The way so far.
use Rattle.std.proofs.Common.{ℕ, ◌<◌, length}
use Rattle.meaning_graph.specs.Graphs.{types}
use Rattle.path_planner.specs.Near.{IsAllNear}
use Rattle.path_planner.proofs.RouteLemmas.{IsOnWay}
use Rattle.path_planner.proofs.route.route.Given as goal

abbrev pub invariant-loop-left : goal.invariant-loop-left
invariant-loop-left l = (l.at < length (types l.graph)) × ((to : ℕ) → IsAllNear l.graph to l.near → IsOnWay l.graph to l.near l.from l.at l.left l.path)

abbrev pub decreases-loop-left : goal.decreases-loop-left
decreases-loop-left l = l.left
