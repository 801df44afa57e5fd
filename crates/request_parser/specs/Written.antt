-- What the written spelling of an expression reads back as.
use Rattle.std.specs.Prelude.{◌≡◌, ◌↔◌, ℕ, ◌≤◌, List, length}
use Rattle.object_values.specs.declared.expressions.Expression.{Expression}
use Rattle.meaning_texts.specs.Limits.{expression_limit}
use Rattle.meaning_texts.specs.Expressions.{IsCanonical, ExpressionText}

-- The text of a canonical expression is a text of it and of no other, where it isn't too long.
abbrev pub ReadsBackAlone : Expression → List ℕ → Type 0
ReadsBackAlone e text =
    IsCanonical e → length text ≤ expression_limit → (other : Expression)
    → ExpressionText text other ↔ (other ≡ e)
