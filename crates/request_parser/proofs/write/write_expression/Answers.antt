use Rattle.std.proofs.Common.{◌++◌, ap, ◌∙◌}
use Rattle.meaning_texts.specs.Expressions.{spelling}
use Rattle.request_parser.proofs.WriteLemmas.{reads_back}
use Rattle.request_parser.proofs.write.write_expression.Goals as goal

pub returns-clause-reads_back : goal.returns-clause-reads_back
returns-clause-reads_back c = reads_back c.args.expression.now c.put_expression.new.out (c.in_ok-put_expression.ensures ∙ ap (λ t. t ++ spelling c.args.expression.now) c.new-text.ensures)
