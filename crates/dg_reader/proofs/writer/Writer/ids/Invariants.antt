use Rattle.std.proofs.Common.{◌+◌, take}
use Rattle.meaning_graph.specs.Grammar.{id_tokens}
use Rattle.dg_reader.specs.Written.{Writes}
use Rattle.dg_reader.proofs.writer.Writer.ids.Given as goal

abbrev pub invariant-ids : goal.invariant-ids
invariant-ids l = Writes (id_tokens (take (l.id-index + 1) l.ids)) l.fn.self l.self
