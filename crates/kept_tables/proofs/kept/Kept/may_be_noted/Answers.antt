use Rattle.kept_notes.proofs.Lemmas.{all_notable}
use Rattle.kept_tables.proofs.kept.Kept.may_be_noted.Goals as goal

pub returns-clause-may : goal.returns-clause-may
returns-clause-may c = rw (← c.self.view_is) (all_notable c.self.inside.contents.contents c.self.inside.records.records c.self.invariant.1.noted)

pub returns-clause-noted : goal.returns-clause-noted
returns-clause-noted c = rw (← c.self.view_is) c.self.invariant.1.noted
