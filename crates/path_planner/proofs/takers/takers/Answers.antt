-- Row by row.
use Rattle.std.proofs.Common.{◌∙◌, ◌+◌, arith}
use Rattle.path_planner.specs.Ends.{takers_of}
use Rattle.path_planner.proofs.TableLemmas.{one_row}
use Rattle.path_planner.proofs.takers.takers.Goals as goal

pub loop-a-preserved : goal.loop-a-preserved
loop-a-preserved c = c.in_ok-push.ensures.ok ∙ one_row (takers_of c.args.graph.now) c.loop-a.a (c.loop-a.a + 1) _ _ (omega arith) c.loop-a.invariant c.in_ok-takers_of.ensures
