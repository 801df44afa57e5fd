use Rattle.odin_nodes.proofs.TypeLemmas.{step_followed}
use Rattle.odin_nodes.proofs.types.type_after.Goals as goal

pub loop-step-preserved : goal.loop-step-preserved
loop-step-preserved c = step_followed c.args.graph.now c.args.from c.args.steps.now c.loop-step.step-index c.loop-step.at c.step-item.result c.in_ok-at.at c.loop-step.invariant c.loop-step-test.true c.step-item.is c.in_ok-at.ensures
