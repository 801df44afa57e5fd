use Rattle.request_parser.proofs.TextLemmas.{goes_on, whole_read}
use Rattle.request_parser.proofs.read.within_limit.Goals as goal

pub returns-then-text-gt-EXPRESSION_LIMIT-clause-err : goal.returns-then-text-gt-EXPRESSION_LIMIT-clause-err
returns-then-text-gt-EXPRESSION_LIMIT-clause-err c = goes_on c.args.text.now c.args.expression c.requires c.if-text-gt-EXPRESSION_LIMIT.true

pub returns-clause-ok : goal.returns-clause-ok
returns-clause-ok c = whole_read c.args.text.now c.args.expression c.requires c.if-text-gt-EXPRESSION_LIMIT.false
