use Rattle.request_parser.specs.declared.bytes.Wanted.TheVariants as wanted
use Rattle.request_parser.specs.Reads.{AreItemsBehind}
use Rattle.request_parser.proofs.ReadLemmas.{reads_param, halts_param}
use Rattle.request_parser.proofs.StopLemmas.{at_stop, word_stops}
use Rattle.request_parser.proofs.cursor.Cursor.param.Goals as goal

pub returns-in_err-param-clause-err : goal.returns-in_err-param-clause-err
returns-in_err-param-clause-err c =
    at_stop _ c.in_err-param.field-0.0 _ c.from_residual.ensures.1 (word_stops (AreItemsBehind 43) wanted.Id c.args.self.now c.word.new.self (halts_param c.args.self.now c.word.new.self) c.in_err-param.field-0.0 c.in_err-param.ensures.err)

pub returns-clause-ok : goal.returns-clause-ok
returns-clause-ok c = reads_param c.in_ok-param.param c.in_ok-value.value c.args.self.now c.word.new.self c.value.new.self c.in_ok-param.ensures.ok c.in_ok-value.ensures
