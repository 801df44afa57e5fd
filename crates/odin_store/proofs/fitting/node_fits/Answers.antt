use Rattle.std.proofs.Common.{ap, is_some, sym}
use Rattle.odin_store.proofs.FittingLemmas.{kept_fits}
use Rattle.odin_store.proofs.fitting.node_fits.Goals as goal

pub returns-in-Some : goal.returns-in-Some
returns-in-Some c =
    let found = rw c.in-Some.is at c.get.ensures.is in
    kept_fits c.args.graph.now c.args.kept.now.records.records c.args.node.now c.requires (ap is_some (sym found))
