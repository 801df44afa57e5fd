use Rattle.std.proofs.Common.{length}
use Rattle.dg_reader.specs.Reads.{ReadsExtras}
use Rattle.dg_reader.proofs.cursor.Cursor.extras.Given as goal

abbrev pub invariant-extras : goal.invariant-extras
invariant-extras l = ReadsExtras l.extras l.fn.self l.self

abbrev pub decreases-extras : goal.decreases-extras
decreases-extras l = length l.self
