use Rattle.dynamic_inputs.proofs.TellingLaws.{root_again as shown}
use Rattle.dynamic_inputs.proofs.laws.root_again.Goals as goal

pub returns : goal.returns
returns c = shown
