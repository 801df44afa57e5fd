use Rattle.request_parser.specs.declared.bytes.Wanted.TheVariants as wanted
use Rattle.request_parser.specs.Reads.{AreItemsBehind}
use Rattle.request_parser.proofs.ReadLemmas.{reads_pick, halts_pick}
use Rattle.request_parser.proofs.StopLemmas.{at_stop, word_stops}
use Rattle.request_parser.proofs.cursor.Cursor.pick.Goals as goal

pub returns-in_err-key-clause-err : goal.returns-in_err-key-clause-err
returns-in_err-key-clause-err c =
    at_stop _ c.in_err-key.field-0.0 _ c.from_residual.ensures.1 (word_stops (AreItemsBehind 37) wanted.Key c.args.self.now c.word.new.self (halts_pick c.args.self.now c.word.new.self) c.in_err-key.field-0.0 c.in_err-key.ensures.err)

pub returns-clause-ok : goal.returns-clause-ok
returns-clause-ok c = reads_pick c.in_ok-key.key c.args.self.now c.word.new.self c.in_ok-key.ensures.ok
