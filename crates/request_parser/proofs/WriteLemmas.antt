-- The spelling of an expression reads back.
use Rattle.std.proofs.Common.{◌≡◌, ℕ, List, sym, subst}
use Rattle.object_values.specs.declared.expressions.Expression.{Expression}
use Rattle.meaning_texts.specs.Expressions.{ExpressionText, spelling}
use Rattle.meaning_texts.proofs.Lemmas.{spells, one_expression}
use Rattle.request_parser.specs.Written.{ReadsBackAlone}

pub reads_back : (e : Expression) (text : List ℕ) → text ≡ spelling e → ReadsBackAlone e text
reads_back e text is = subst (ReadsBackAlone e) (sym is) (λ c short other. (λ t. one_expression (spelling e) e other (spells e c short) t, λ o. subst (ExpressionText (spelling e)) (sym o) (spells e c short)))
