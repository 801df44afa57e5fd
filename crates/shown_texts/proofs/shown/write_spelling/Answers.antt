use Rattle.std.proofs.Common.{arith}
use Rattle.std.proofs.lemmas.Grind.{common_steps}
use Rattle.shown_texts.specs.Shown.{spelling}
use Rattle.shown_texts.proofs.shown.write_spelling.Goals as goal

pub returns-in-92 : goal.returns-in-92
unfolding spelling
returns-in-92 c = grind (arith, common_steps)

pub returns-in-9 : goal.returns-in-9
unfolding spelling
returns-in-9 c = grind (arith, common_steps)

pub returns-in_default : goal.returns-in_default
unfolding spelling
returns-in_default c = grind (arith, common_steps)
