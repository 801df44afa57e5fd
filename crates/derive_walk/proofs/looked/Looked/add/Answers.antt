use Rattle.std.proofs.Common.{sym}
use Rattle.object_values.specs.contracts.nodes.NodePartialEq.TheImpl.{ghosts as key_eq}
use Rattle.derive_walk.proofs.FoundAdded.{added}
use Rattle.derive_walk.proofs.looked.Looked.add.Goals as goal

pub returns-clause-ok : goal.returns-clause-ok
returns-clause-ok c = added key_eq.eq c.self.inside.places.entries c.args.self.now _ c.args.node c.args.place (sym c.self.view_is) c.in_ok-insert.ensures.entries c.requires
