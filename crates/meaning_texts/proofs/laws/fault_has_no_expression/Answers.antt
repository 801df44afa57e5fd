use Rattle.meaning_texts.proofs.Places.{no_expression}
use Rattle.meaning_texts.proofs.laws.fault_has_no_expression.Goals as goal

pub returns : goal.returns
returns c = no_expression
