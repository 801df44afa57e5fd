use Rattle.std.proofs.Common.{length}
use Rattle.dg_reader.specs.Reads.{ReadsStrings}
use Rattle.dg_reader.proofs.cursor.Cursor.strings.Given as goal

abbrev pub invariant-strings : goal.invariant-strings
invariant-strings l = ReadsStrings l.strings l.fn.self l.self

abbrev pub decreases-strings : goal.decreases-strings
decreases-strings l = length l.self
