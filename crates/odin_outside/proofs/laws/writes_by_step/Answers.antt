use Rattle.odin_outside.specs.Steps.{torn_step, torn_image}
use Rattle.odin_outside.proofs.laws.writes_by_step.Goals as goal

pub returns : goal.returns
returns c = λ pending at n. record { from = torn_step pending at n; each = torn_image pending at n }
