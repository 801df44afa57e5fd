use Rattle.kept_tables.proofs.HeldLemmas.{all_kept}
use Rattle.kept_tables.proofs.kept.Kept.fit.Goals as goal

pub returns : goal.returns
returns c = rw (← c.self.view_is) (all_kept c.self.inside.heads c.self.inside.contents.texts c.self.inside.calls.entries.items c.self.invariant.0.0)
