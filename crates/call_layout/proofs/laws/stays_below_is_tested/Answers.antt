use Rattle.call_layout.proofs.Steps.{stays_decides}
use Rattle.call_layout.proofs.laws.stays_below_is_tested.Goals as goal

pub returns : goal.returns
returns c = λ path. stays_decides path
