use Rattle.kept_tables.proofs.kept.Kept.contents_are_short.Goals as goal

pub returns : goal.returns
returns c = rw (← c.self.view_is) c.self.invariant.1.short
