use Rattle.meaning_texts.proofs.Spellings.{one_expression}
use Rattle.meaning_texts.proofs.laws.expression_is_one.Goals as goal

pub returns : goal.returns
returns c = one_expression
