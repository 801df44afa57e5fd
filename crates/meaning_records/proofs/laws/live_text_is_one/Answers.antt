use Rattle.meaning_records.proofs.LiveSizes.{live_text_one}
use Rattle.meaning_records.proofs.laws.live_text_is_one.Goals as goal

pub returns : goal.returns
returns c = live_text_one
