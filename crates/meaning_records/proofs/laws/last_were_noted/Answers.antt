use Rattle.meaning_records.proofs.LastNoted.{last_noted}
use Rattle.meaning_records.proofs.laws.last_were_noted.Goals as goal

pub returns : goal.returns
returns c = last_noted
