use Rattle.odin_outside.specs.Steps.{cut_step, cut_image}
use Rattle.odin_outside.proofs.laws.cuts_by_step.Goals as goal

pub returns : goal.returns
returns c = λ pending size. record { from = cut_step pending size; each = cut_image pending size }
