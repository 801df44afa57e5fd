use Rattle.std.proofs.Common.{subst}
use Rattle.request_parser.specs.Reads.{Halts, HaltsAt, IsOfGrammar, IsWrittenAs}
use Rattle.request_parser.proofs.TextLemmas.{first_read, fault_first}
use Rattle.request_parser.proofs.read.read_expression.Goals as goal

pub within_limit-requires : goal.within_limit-requires
within_limit-requires c = first_read c.args.text.now c.min.result c.in-Ok.expression c.min.ensures (subst (λ t. IsWrittenAs t c.in-Ok.expression) c.new-cursor.ensures c.in-Ok.ensures.ok)

pub returns-in-Err-Unexpected-clause-err : goal.returns-in-Err-Unexpected-clause-err
returns-in-Err-Unexpected-clause-err c =
    let h : HaltsAt IsOfGrammar c.new-cursor.result c.expression.new.self = subst (λ s. Halts s IsOfGrammar c.new-cursor.result c.expression.new.self) c.in-Err-Unexpected.field-0-is c.in-Err-Unexpected.ensures.err in
    rw c.place_before.ensures (fault_first c.args.text.now c.expression.new.self c.min.result c.left.result c.min.ensures c.left.ensures (subst (λ t. HaltsAt IsOfGrammar t c.expression.new.self) c.new-cursor.ensures h))
