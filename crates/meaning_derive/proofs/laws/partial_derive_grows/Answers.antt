use Rattle.meaning_derive.proofs.Steps.{derive_more}
use Rattle.meaning_derive.proofs.Enough.{enough}
use Rattle.meaning_derive.proofs.laws.partial_derive_grows.Goals as goal

pub returns-clause-grows : goal.returns-clause-grows
returns-clause-grows c = derive_more

pub returns-clause-enough : goal.returns-clause-enough
returns-clause-enough c = enough
