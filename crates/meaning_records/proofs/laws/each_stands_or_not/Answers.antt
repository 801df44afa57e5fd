use Rattle.meaning_records.proofs.Images.{stands_or_not}
use Rattle.meaning_records.proofs.laws.each_stands_or_not.Goals as goal

pub returns : goal.returns
returns c = stands_or_not
