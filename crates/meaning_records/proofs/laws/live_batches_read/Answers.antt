use Rattle.meaning_records.proofs.LiveReads.{live_read}
use Rattle.meaning_records.proofs.laws.live_batches_read.Goals as goal

pub returns : goal.returns
returns c = live_read
