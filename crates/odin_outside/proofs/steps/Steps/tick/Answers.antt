use Rattle.std.proofs.Common.{arith}
use Rattle.std.proofs.lemmas.Grind.{common_steps}
use Rattle.odin_outside.proofs.steps.Steps.tick.Goals as goal

pub returns : goal.returns
returns g c = grind (arith, common_steps)
