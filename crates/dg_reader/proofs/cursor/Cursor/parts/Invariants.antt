use Rattle.std.proofs.Common.{length}
use Rattle.dg_reader.specs.Reads.{ReadsParts}
use Rattle.dg_reader.proofs.cursor.Cursor.parts.Given as goal

abbrev pub invariant-parts : goal.invariant-parts
invariant-parts l = ReadsParts l.parts l.fn.self l.self

abbrev pub decreases-parts : goal.decreases-parts
decreases-parts l = length l.self
