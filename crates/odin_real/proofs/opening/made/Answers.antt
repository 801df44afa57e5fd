use Rattle.odin_real.proofs.Runs.{made_stays}
use Rattle.odin_real.proofs.opening.made.Goals as goal

pub returns-in-Open-eq0-clause-stays : goal.returns-in-Open-eq0-clause-stays
returns-in-Open-eq0-clause-stays g c = made_stays (g.met.F.RawFile.counts_now c.args.file.now) c.requires c.make.ensures.stays c.held.ensures.syncs

pub returns-in-InUse-default-clause-stays : goal.returns-in-InUse-default-clause-stays
returns-in-InUse-default-clause-stays g c = made_stays (g.met.F.RawFile.counts_now c.args.file.now) c.requires c.make.ensures.stays c.held.ensures.syncs

pub returns-in_default-clause-stays : goal.returns-in_default-clause-stays
returns-in_default-clause-stays g c = made_stays (g.met.F.RawFile.counts_now c.args.file.now) c.requires c.make.ensures.stays c.held.ensures.syncs

pub returns-in_default-2-clause-stays : goal.returns-in_default-2-clause-stays
returns-in_default-2-clause-stays g c = made_stays (g.met.F.RawFile.counts_now c.args.file.now) c.requires c.make.ensures.stays c.held.ensures.syncs
