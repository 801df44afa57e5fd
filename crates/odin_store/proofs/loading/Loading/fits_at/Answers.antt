use Rattle.std.proofs.Common.{sym}
use Rattle.odin_store.proofs.FittingLemmas.{tells_fit, tells_unfit}
use Rattle.odin_store.proofs.loading.Loading.fits_at.Goals as goal

pub returns-in-Some-clause-fits : goal.returns-in-Some-clause-fits
returns-in-Some-clause-fits c =
    let at = rw c.in-Some.is at c.record_at.ensures.is in
    tells_fit c.args.self.now c.args.place c.requires.may c.requires.counts c.in-Some.noted.now (sym at) c.records_fit.ensures.says c.fits_noted.result c.fits_noted.ensures

pub returns-in-Some-clause-unfit : goal.returns-in-Some-clause-unfit
returns-in-Some-clause-unfit c =
    let at = rw c.in-Some.is at c.record_at.ensures.is in
    tells_unfit c.args.self.now c.args.place c.requires.may c.requires.counts c.in-Some.noted.now (sym at) c.records_fit.ensures.says c.fits_noted.result c.fits_noted.ensures
