use Rattle.kept_tables.proofs.CopyLemmas.{stand_once}
use Rattle.kept_tables.proofs.kept.Kept.stand_as_noted.Goals as goal

pub returns : goal.returns
returns c = rw (← c.self.view_is) (stand_once c.self.inside.contents.contents c.self.inside.records.records c.once.ensures)
