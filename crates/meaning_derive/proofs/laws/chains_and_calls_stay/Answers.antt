use Rattle.meaning_derive.proofs.Stay.{kept}
use Rattle.meaning_derive.proofs.laws.chains_and_calls_stay.Goals as goal

pub returns : goal.returns
returns c = λ g s outcomes more has n. kept g s outcomes more has n
