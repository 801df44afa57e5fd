use Rattle.std.proofs.Common.{arith}
use Rattle.std.proofs.lemmas.Grind.{common_steps}
use Rattle.build_view.specs.Escaped.{entity}
use Rattle.build_view.proofs.escaped.write_entity.Goals as goal

pub returns-in-34 : goal.returns-in-34
unfolding entity
returns-in-34 c = grind (arith, common_steps)

pub returns-in-38 : goal.returns-in-38
unfolding entity
returns-in-38 c = grind (arith, common_steps)

pub returns-in-39 : goal.returns-in-39
unfolding entity
returns-in-39 c = grind (arith, common_steps)

pub returns-in-60 : goal.returns-in-60
unfolding entity
returns-in-60 c = grind (arith, common_steps)

pub returns-in-62 : goal.returns-in-62
unfolding entity
returns-in-62 c = grind (arith, common_steps)

pub returns-in_default : goal.returns-in_default
unfolding entity
returns-in_default c = grind (arith, common_steps)
