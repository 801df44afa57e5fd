use Rattle.std.proofs.Common.{◌∙◌}
use Rattle.odin_nodes.proofs.TypeLemmas.{maker_followed, maker_not_followed}
use Rattle.odin_nodes.proofs.types.type_along.Goals as goal

pub returns-in_err-at : goal.returns-in_err-at
returns-in_err-at c = c.from_residual.ensures ∙ maker_not_followed c.args.planned.now c.args.from c.args.path.now c.loop-maker.maker-index c.loop-maker.at c.loop-maker.invariant c.loop-maker-test.true c.in_err-at.ensures

pub loop-maker-preserved : goal.loop-maker-preserved
loop-maker-preserved c = maker_followed c.args.planned.now c.args.from c.args.path.now c.loop-maker.maker-index c.loop-maker.at c.loop-maker.invariant c.loop-maker-test.true c.in_ok-at.at c.in_ok-at.ensures
