-- What a text is that was refused.
use Rattle.std.specs.Prelude.{ℕ, List, ⊤}
use Rattle.meaning_texts.specs.Expressions.{IsFaultPlace}
use Rattle.request_parser.specs.declared.fault.ExpressionFault.{ExpressionFault}
use Rattle.request_parser.specs.declared.fault.ExpressionFault.TheVariants.{BadAt, Memory}

-- the place is that of the text's fault; want of memory says nothing of the text
abbrev pub IsExpressionRefusal : List ℕ → ExpressionFault → Type 0
IsExpressionRefusal text (BadAt place) = IsFaultPlace text place
IsExpressionRefusal text Memory = ⊤
