use Rattle.std.proofs.Common.{ap, sym}
use Rattle.call_layout.specs.Labels.{first_of_steps}
use Rattle.call_layout.proofs.Steps.{steps_cut, one_step}
use Rattle.call_layout.proofs.labels.first_step.Goals as goal

pub returns-in-Some : goal.returns-in-Some
returns-in-Some c = sym (ap first_of_steps (steps_cut _ _ _ c.in-Some.ensures.some))

pub returns-in-None : goal.returns-in-None
returns-in-None c = sym (ap first_of_steps (one_step _ c.in-None.ensures.none))
