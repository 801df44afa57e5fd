use Rattle.std.proofs.Common.{sym, subst}
use Rattle.request_parser.specs.declared.bytes.Wanted.TheVariants as wanted
use Rattle.request_parser.specs.Runs.{TakesWord}
use Rattle.request_parser.specs.Reads.{IsOfGrammar, AreItems}
use Rattle.request_parser.proofs.StopLemmas.{at_stop, word_halts_whole, stops_behind}
use Rattle.request_parser.proofs.TextLemmas.{source_halts, behind_halts, text_read}
use Rattle.request_parser.proofs.cursor.Cursor.expression.Goals as goal

pub returns-in_err-source-clause-err : goal.returns-in_err-source-clause-err
returns-in_err-source-clause-err c =
    at_stop _ c.in_err-source.field-0.0 _ c.from_residual.ensures.1 (word_halts_whole IsOfGrammar wanted.Name c.run.new.self c.args.self.now c.word.new.self (source_halts c.run.result.now c.args.self.now c.run.new.self c.word.new.self c.run.ensures) c.in_err-source.field-0.0 c.in_err-source.ensures.err)

pub returns-in_err-found-clause-err : goal.returns-in_err-found-clause-err
returns-in_err-found-clause-err c =
    at_stop _ c.in_err-found.field-0.0 _ c.from_residual-in_err-found.ensures.1 (stops_behind AreItems IsOfGrammar c.word.new.self c.args.self.now c.items.new.self (behind_halts c.run.result.now c.in_ok-source.source c.args.self.now c.run.new.self c.word.new.self c.items.new.self c.run.ensures c.in_ok-source.ensures.ok) c.in_err-found.field-0.0 c.in_err-found.ensures.err)

pub returns-clause-ok : goal.returns-clause-ok
returns-clause-ok c =
    let word : TakesWord wanted.Name c.into_expression.result.source c.run.new.self c.word.new.self = subst (λ s. TakesWord wanted.Name s c.run.new.self c.word.new.self) (sym c.into_expression.ensures.source) c.in_ok-source.ensures.ok in
    text_read c.run.result.now c.args.self.now c.run.new.self c.word.new.self c.into_expression.result c.in_ok-found.found.params.items c.in_ok-found.found.steps c.run.ensures word c.in_ok-found.ensures.ok c.into_expression.ensures.params c.into_expression.ensures.steps
