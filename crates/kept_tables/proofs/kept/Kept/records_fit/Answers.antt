use Rattle.kept_notes.proofs.Lemmas.{all_named, all_notable}
use Rattle.kept_tables.proofs.kept.Kept.records_fit.Goals as goal

pub returns-clause-may : goal.returns-clause-may
returns-clause-may c = rw (← c.self.view_is) (all_notable c.self.inside.contents.contents c.self.inside.records.records c.self.invariant.1.noted)

pub returns-clause-named : goal.returns-clause-named
returns-clause-named c = rw (← c.self.view_is) (all_named c.self.inside.contents.contents c.self.inside.records.records c.self.invariant.1.noted)
