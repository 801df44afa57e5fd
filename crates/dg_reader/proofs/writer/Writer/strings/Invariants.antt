use Rattle.std.proofs.Common.{take}
use Rattle.meaning_graph.specs.Grammar.{string_tokens}
use Rattle.dg_reader.specs.Written.{Writes}
use Rattle.dg_reader.proofs.writer.Writer.strings.Given as goal

abbrev pub invariant-strings : goal.invariant-strings
invariant-strings l = Writes (string_tokens (take l.string-index l.strings)) l.fn.self l.self
