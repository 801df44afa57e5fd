-- Row by row.
use Rattle.std.proofs.Common.{◌∙◌, ◌+◌, arith}
use Rattle.path_planner.proofs.TableLemmas.{more_rows}
use Rattle.path_planner.proofs.plans.nears_in.Goals as goal

pub loop-to-preserved : goal.loop-to-preserved
loop-to-preserved c = c.in_ok-push.ensures.ok ∙ more_rows c.args.graph.now c.loop-to.to (c.loop-to.to + 1) _ _ (omega arith) c.loop-to.invariant c.in_ok-distances.ensures
