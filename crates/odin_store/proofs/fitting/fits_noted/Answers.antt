use Rattle.kept_notes.specs.Facts.{fact_of}
use Rattle.odin_store.proofs.FittingLemmas.{told_fits}
use Rattle.odin_store.proofs.fitting.fits_noted.Goals as goal

pub returns : goal.returns
returns c = told_fits c.fitting_is_tested.ensures c.args.graph.now (fact_of c.args.kept.now.tables.contents c.args.noted.now) c.test_noted.result c.test_noted.ensures
