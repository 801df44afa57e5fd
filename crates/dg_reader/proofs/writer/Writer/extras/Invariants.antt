use Rattle.std.proofs.Common.{take}
use Rattle.meaning_graph.specs.Grammar.{extra_tokens}
use Rattle.dg_reader.specs.Written.{Writes}
use Rattle.dg_reader.proofs.writer.Writer.extras.Given as goal

abbrev pub invariant-extras : goal.invariant-extras
invariant-extras l = Writes (extra_tokens (take l.extra-index l.extras)) l.fn.self l.self
