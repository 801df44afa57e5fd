use Rattle.odin_store.proofs.OpenLemmas.{opening_keeps_held}
use Rattle.odin_store.proofs.laws.openings_keep_held.Goals as goal

pub returns : goal.returns
returns g c graph old new = opening_keeps_held c.reads_in_one_way.ensures graph (g.D.Disk.told old) (g.D.Disk.told new)
