use Rattle.std.proofs.Common.{sym, subst}
use Rattle.meaning_texts.specs.Expressions.{ExpressionText, spelling}
use Rattle.meaning_texts.proofs.Spellings.{spells, one_expression}
use Rattle.meaning_texts.proofs.laws.spelling_reads_back.Goals as goal

pub returns : goal.returns
returns c = λ e canonical short other. (λ t. one_expression (spelling e) e other (spells e canonical short) t, λ same. subst (ExpressionText (spelling e)) (sym same) (spells e canonical short))
