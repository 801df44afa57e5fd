use Rattle.std.proofs.Common.{List, take, subst}
use Rattle.object_values.specs.declared.graph.Extra.{Extra}
use Rattle.meaning_graph.specs.Grammar.{extra_tokens}
use Rattle.dg_reader.specs.Written.{Writes}
use Rattle.dg_reader.proofs.WriteLemmas.{extras_written, take_step}
use Rattle.dg_reader.proofs.writer.Writer.extras.Goals as goal

pub extras-preserved : goal.extras-preserved
extras-preserved c = subst (λ (es : List Extra). Writes (extra_tokens es) c.args.self.now c.extra.new.self) (take_step c.args.extras.now c.extra-item.result c.extras.extra-index c.extras-test.true c.extra-item.is) (extras_written (take c.extras.extra-index c.args.extras.now) c.extra-item.result c.args.self.now c.extras.self c.extra.new.self c.extras.invariant c.in_ok-extra.ensures)
