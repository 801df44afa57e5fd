-- The place of a fault is one, and a text with a fault has no expression.
use Rattle.std.proofs.Common.{◌≡◌, ℕ, ◌+◌, ◌<◌, ◌≤◌, List, length, take, drop, inl, inr, arith, take-append-drop}
use Rattle.std.proofs.lemmas.Bool.{cases_order}
use Rattle.object_values.specs.declared.expressions.Expression.{Expression}
use Rattle.meaning_texts.specs.Limits.{expression_limit}
use Rattle.meaning_texts.specs.Expressions.{IsFront, IsStop, no_front, past_limit, too_short, IsFaultPlace, ExpressionText}

-- a text of the grammar has only fronts
front_of : (text : List ℕ) (e : Expression) (n : ℕ) → ExpressionText text e → IsFront (take n text)
front_of text e n t = record { more = drop n text; source = e.source; params = t.params; steps = e.steps; written = rw (take-append-drop n text) t.written }

pub no_expression : (text : List ℕ) (place : ℕ) (e : Expression) → IsFaultPlace text place → ExpressionText text e → ⊥
no_expression text place e f t = by_stop f.there
  where
    by_stop : IsStop text place → ⊥
    by_stop (no_front within never) = never (front_of text e place t)
    by_stop (past_limit long is) = let s : length text ≤ expression_limit = t.short in absurd (omega arith)
    by_stop (too_short is never) = never e t

-- a fault is at no later place than another
not_later : (text : List ℕ) (place other : ℕ) → IsFaultPlace text place → IsFaultPlace text other → place < other → ⊥
not_later text place other f g less = by_stop f.there
  where
    by_other : place ≡ length text + 1 → IsStop text other → ⊥
    by_other is (no_front within never) = absurd (omega arith)
    by_other is (past_limit long at) = let s : place ≤ expression_limit + 1 = f.within in absurd (omega arith)
    by_other is (too_short at never) = absurd (omega arith)

    by_stop : IsStop text place → ⊥
    by_stop (no_front within never) = never (g.before place less)
    by_stop (past_limit long is) = let s : other ≤ expression_limit + 1 = g.within in absurd (omega arith)
    by_stop (too_short is never) = by_other is g.there

pub one_place : (text : List ℕ) (place other : ℕ) → IsFaultPlace text place → IsFaultPlace text other → other ≡ place
one_place text place other f g = elim (cases_order other place) [
  | inl e ↦ e
  | inr h ↦ elim h [
    | inl l ↦ absurd (not_later text other place g f l)
    | inr l ↦ absurd (not_later text place other f g l)
  ]
]
