-- A step that is refused refuses all of them.
use Rattle.meaning_tasks.specs.NodeOf.{is_node, steps_on}
use Rattle.odin_nodes.proofs.MakeLemmas.{step_refused, refused_by}
use Rattle.odin_nodes.proofs.making.Reached.add_steps.Goals as goal

pub returns-in_err-add_step-clause-err : goal.returns-in_err-add_step-clause-err
returns-in_err-add_step-clause-err c =
    refused_by c.from_residual.result c.in_err-add_step.field-0.0 (steps_on c.args.planned.now 1 (is_node c.args.self.now.node) c.args.steps.now) c.from_residual.ensures.1
    (step_refused c.args.planned.now c.args.self.now.node c.args.steps.now c.loop-before.before c.loop-before.self.node c.loop-before.self.at c.index-steps-before.result c.in_err-add_step.field-0.0 c.loop-before.invariant c.loop-before-test.true c.index-steps-before.is c.in_err-add_step.ensures.err)
