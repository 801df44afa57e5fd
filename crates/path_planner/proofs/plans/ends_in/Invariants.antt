-- The ends of the makers so far.
use Rattle.std.proofs.Common.{◌≡◌, map, take}
use Rattle.meaning_graph.specs.Graphs.{makers}
use Rattle.path_planner.specs.Ends.{ends_of}
use Rattle.path_planner.proofs.plans.ends_in.Given as goal

abbrev pub invariant-loop-decl : goal.invariant-loop-decl
invariant-loop-decl l = l.made ≡ map (ends_of l.graph) (makers (take l.decl-index l.decl-items))
