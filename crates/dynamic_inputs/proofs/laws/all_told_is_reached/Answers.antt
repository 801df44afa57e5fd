use Rattle.dynamic_inputs.proofs.TellingLaws.{all_told_is_reached as shown}
use Rattle.dynamic_inputs.proofs.laws.all_told_is_reached.Goals as goal

pub returns : goal.returns
returns c = shown
