use Rattle.request_parser.specs.declared.bytes.Wanted.TheVariants as wanted
use Rattle.request_parser.specs.Reads.{AreItemsBehind}
use Rattle.request_parser.proofs.ReadLemmas.{reads_type, halts_type}
use Rattle.request_parser.proofs.StopLemmas.{at_stop, word_stops}
use Rattle.request_parser.proofs.cursor.Cursor.type_step.Goals as goal

pub returns-in_err-id-clause-err : goal.returns-in_err-id-clause-err
returns-in_err-id-clause-err c =
    at_stop _ c.in_err-id.field-0.0 _ c.from_residual.ensures.1 (word_stops (AreItemsBehind 58) wanted.Id c.args.self.now c.word.new.self (halts_type c.args.self.now c.word.new.self) c.in_err-id.field-0.0 c.in_err-id.ensures.err)

pub returns-clause-ok : goal.returns-clause-ok
returns-clause-ok c = reads_type c.in_ok-id.id c.args.self.now c.word.new.self c.in_ok-id.ensures.ok
