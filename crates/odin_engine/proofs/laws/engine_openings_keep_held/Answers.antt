use Rattle.odin_engine.proofs.EngineLemmas.{opening_keeps}
use Rattle.odin_engine.proofs.laws.engine_openings_keep_held.Goals as goal

pub returns : goal.returns
returns g c = opening_keeps g.D.Disk.told c.openings_keep_held.ensures c.compactions_keep.ensures
