use Rattle.meaning_tasks.proofs.Numbers.{element_numbers as shown}
use Rattle.meaning_tasks.proofs.node_laws.element_numbers.Goals as goal

pub returns : goal.returns
returns c = shown
