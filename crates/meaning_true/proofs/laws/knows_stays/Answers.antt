use Rattle.meaning_true.proofs.Knowing.{knows_on, nothing_known}
use Rattle.meaning_true.proofs.laws.knows_stays.Goals as goal

pub returns-clause-stays : goal.returns-clause-stays
returns-clause-stays c = λ g s outcomes more records has knows. knows_on g s outcomes more records has knows

pub returns-clause-nothing : goal.returns-clause-nothing
returns-clause-nothing c = nothing_known
