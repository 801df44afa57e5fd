use Rattle.meaning_records.proofs.Images.{gates_lead}
use Rattle.meaning_records.proofs.laws.gates_follow.Goals as goal

pub returns : goal.returns
returns c = gates_lead
