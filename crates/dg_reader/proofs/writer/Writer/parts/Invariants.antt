use Rattle.std.proofs.Common.{◌+◌, take}
use Rattle.meaning_graph.specs.Grammar.{part_tokens}
use Rattle.dg_reader.specs.Written.{Writes}
use Rattle.dg_reader.proofs.writer.Writer.parts.Given as goal

abbrev pub invariant-parts : goal.invariant-parts
invariant-parts l = Writes (part_tokens (take (l.part-index + 1) l.parts)) l.fn.self l.self
