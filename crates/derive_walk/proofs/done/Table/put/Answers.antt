use Rattle.std.proofs.Common.{sym}
use Rattle.object_values.specs.contracts.nodes.NodePartialEq.TheImpl.{ghosts as key_eq}
use Rattle.derive_walk.proofs.FoundAdded.{added}
use Rattle.derive_walk.proofs.done.Table.put.Goals as goal

pub returns-in-Ok-clause-ok : goal.returns-in-Ok-clause-ok
returns-in-Ok-clause-ok c = added key_eq.eq c.self.inside.done.entries c.args.self.now _ c.args.node c.args.done (sym c.self.view_is) c.in-Ok.ensures.entries c.requires
