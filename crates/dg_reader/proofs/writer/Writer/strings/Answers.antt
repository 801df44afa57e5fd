use Rattle.std.proofs.Common.{◌∷◌, [], take, subst}
use Rattle.meaning_graph.specs.Tokens.{string}
use Rattle.meaning_graph.specs.Grammar.{string_tokens}
use Rattle.dg_reader.specs.Written.{Writes}
use Rattle.dg_reader.proofs.WriteLemmas.{strings_written, take_step}
use Rattle.dg_reader.proofs.writer.Writer.strings.Goals as goal

pub strings-preserved : goal.strings-preserved
strings-preserved c = subst (λ ws. Writes (string_tokens ws) c.args.self.now c.token.new.self) (take_step c.args.strings.now c.string-item.result c.strings.string-index c.strings-test.true c.string-item.is) (strings_written (take c.strings.string-index c.args.strings.now) c.string-item.result c.args.self.now c.strings.self c.token.new.self c.strings.invariant (subst (λ w. Writes (string w ∷ []) c.strings.self c.token.new.self) c.as_slice.ensures c.in_ok-token.ensures))
