use Rattle.std.proofs.Common.{length}
use Rattle.dg_reader.specs.Reads.{ReadsIds}
use Rattle.dg_reader.proofs.cursor.Cursor.ids.Given as goal

abbrev pub invariant-ids : goal.invariant-ids
invariant-ids l = ReadsIds l.ids l.fn.self l.self

abbrev pub decreases-ids : goal.decreases-ids
decreases-ids l = length l.self
