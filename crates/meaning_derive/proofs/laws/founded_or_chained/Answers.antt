use Rattle.meaning_derive.proofs.Founded.{founded_or_chained as founded}
use Rattle.meaning_derive.proofs.laws.founded_or_chained.Goals as goal

pub returns : goal.returns
returns c = founded
