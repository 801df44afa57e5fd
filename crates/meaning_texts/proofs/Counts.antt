-- An expression has no more steps than its text may have bytes.
use Rattle.std.proofs.Common.{◌≡◌, ℕ, ◌≤◌, List, ◌∷◌, ◌++◌, length, replicate, ap, arith}
use Rattle.std.proofs.lemmas.List.{length-append}
use Rattle.object_values.specs.declared.nodes.ParamValue.{ParamValue}
use Rattle.object_values.specs.declared.expressions.ExprStep.{ExprStep}
use Rattle.object_values.specs.declared.expressions.Expression.{Expression}
use Rattle.meaning_texts.specs.Limits.{expression_limit}
use Rattle.meaning_texts.specs.Expressions.{Items, no_more, space, param_value, param_alone, type_step, pick_step, ExpressionText}

-- each step has a byte of its own
fewer : (text : List ℕ) (ps : List ParamValue) (ss : List ExprStep) → Items text ps ss → length ss ≤ length text
fewer text ps ss no_more = omega arith
fewer text ps ss (space rest qs ts i) = let h : length ts ≤ length rest = fewer rest qs ts i in omega (arith, h)
fewer text ps ss (param_value id of rest qs ts n v i) = let h : length ts ≤ length rest = fewer rest qs ts i in omega (arith, h, length-append id (61 ∷ (of ++ rest)), length-append of rest)
fewer text ps ss (param_alone id rest qs ts n i) = let h : length ts ≤ length rest = fewer rest qs ts i in omega (arith, h, length-append id rest)
fewer text ps ss (type_step id rest qs ts n i) = let h : length ts ≤ length rest = fewer rest qs ts i in omega (arith, h, length-append id rest)
fewer text ps ss (pick_step key rest qs ts k i) = let h : length ts ≤ length rest = fewer rest qs ts i in omega (arith, h, length-append key rest)

pub few_steps : (text : List ℕ) (e : Expression) → ExpressionText text e → length e.steps ≤ expression_limit
few_steps text e t =
    let few : length e.steps ≤ length t.written.behind = fewer t.written.behind t.params e.steps t.written.items in
    let whole : length text ≡ length (replicate t.written.spaces 32 ++ (e.source ++ t.written.behind)) = ap length t.written.is in
    let short : length text ≤ 1000 = t.short in
    omega (arith, few, whole, short, length-append (replicate t.written.spaces 32) (e.source ++ t.written.behind), length-append e.source t.written.behind)
