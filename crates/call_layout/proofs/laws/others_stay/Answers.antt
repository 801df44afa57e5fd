use Rattle.call_layout.proofs.Standing.{others_stay}
use Rattle.call_layout.proofs.laws.others_stay.Goals as goal

pub returns : goal.returns
returns c = λ parts files path none. others_stay parts 1 parts files path none
