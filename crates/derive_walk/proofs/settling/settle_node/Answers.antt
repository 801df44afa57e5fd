use Rattle.derive_walk.specs.Tables.{results_of}
use Rattle.derive_walk.specs.Settings.{world_in}
use Rattle.derive_walk.proofs.SourceSettles.{source_closes}
use Rattle.derive_walk.proofs.settling.settle_node.Goals as goal

pub returns-then-is_empty-clause-closed : goal.returns-then-is_empty-clause-closed
returns-then-is_empty-clause-closed g c = (c.is_empty.ensures.0 c.if-is_empty.true, source_closes (world_in g.K.Known.keeps c.args.setting.now) c.args.node.now (results_of c.args.done.now) (c.is_empty.ensures.0 c.if-is_empty.true) c.in_ok-view.view (rw c.graph.ensures at c.in_ok-view.ensures))
