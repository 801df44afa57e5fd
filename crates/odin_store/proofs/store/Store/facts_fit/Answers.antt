use Rattle.odin_store.proofs.FitLemmas.{from_test}
use Rattle.odin_store.proofs.store.Store.facts_fit.Goals as goal

pub returns : goal.returns
returns c = from_test c.fitting_is_tested.ensures c.args.self.now.graph c.args.self.now.kept.tables.records c.args.self.now.fits
