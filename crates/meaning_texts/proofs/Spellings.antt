-- The spelling of a canonical expression is a text of it.
use Rattle.std.proofs.Common.{◌≡◌, ℕ, ◌≤◌, List, [], ◌∷◌, ◌++◌, length, Some, refl, append_assoc, append-nil}
use Rattle.std.specs.List.{flat_map, All}
use Rattle.std.proofs.lemmas.List.Elements.{All-head, All-tail}
use Rattle.object_values.specs.declared.nodes.ParamValue.{ParamValue}
use Rattle.object_values.specs.declared.expressions.ExprStep.{ExprStep}
use Rattle.object_values.specs.declared.expressions.ExprStep.TheVariants.{To, Pick}
use Rattle.object_values.specs.declared.expressions.Expression.{Expression}
use Rattle.meaning_texts.specs.Classes.{IsId, IsParamValue}
use Rattle.meaning_texts.specs.Limits.{expression_limit}
use Rattle.meaning_texts.specs.Expressions.{Items, no_more, param_value, param_alone, type_step, pick_step, ExpressionText, IsStepOfClass, IsParamOfClass, IsCanonical, value_spelling, param_spelling, step_spelling, spelling}
use Rattle.meaning_texts.specs.Reading.{expression_of}
use Rattle.meaning_texts.proofs.Readings.{reads}

one_step : (s : ExprStep) (rest : List ℕ) (ss : List ExprStep) → IsStepOfClass s → Items rest [] ss → Items (step_spelling s ++ rest) [] (s ∷ ss)
one_step (To id) rest ss c i = type_step id rest [] ss c i
one_step (Pick key) rest ss c i = pick_step key rest [] ss c i

steps_items : (ss : List ExprStep) → All IsStepOfClass ss → Items (flat_map step_spelling ss) [] ss
steps_items [] c = no_more
steps_items (s ∷ ss) c = one_step s (flat_map step_spelling ss) ss (All-head IsStepOfClass s ss c) (steps_items ss (All-tail IsStepOfClass s ss c))

one_param : (name value rest : List ℕ) (ps : List ParamValue) (ss : List ExprStep) → IsId name → IsParamValue value → Items rest ps ss → Items (43 ∷ ((name ++ value_spelling value) ++ rest)) (record { param = name; value = value } ∷ ps) ss
one_param name [] rest ps ss n v i = rw (append-nil name) (param_alone name rest ps ss n i)
one_param name (b ∷ value) rest ps ss n v i = rw (append_assoc name (61 ∷ b ∷ value) rest) (param_value name (b ∷ value) rest ps ss n v i)

params_items : (ps : List ParamValue) (rest : List ℕ) (ss : List ExprStep) → All IsParamOfClass ps → Items rest [] ss → Items (flat_map param_spelling ps ++ rest) ps ss
params_items [] rest ss c i = i
params_items (p ∷ ps) rest ss c i =
    let h : IsParamOfClass p = All-head IsParamOfClass p ps c in
    let inner : Items (flat_map param_spelling ps ++ rest) ps ss = params_items ps rest ss (All-tail IsParamOfClass p ps c) i in
    let t : (param_spelling p ++ flat_map param_spelling ps) ++ rest ≡ param_spelling p ++ (flat_map param_spelling ps ++ rest) = append_assoc (param_spelling p) (flat_map param_spelling ps) rest in
    rw t (one_param p.param p.value (flat_map param_spelling ps ++ rest) ps ss h.name h.value inner)

pub spells : (e : Expression) → IsCanonical e → length (spelling e) ≤ expression_limit → ExpressionText (spelling e) e
spells e c short = record {
  params = e.params;
  written = record {
    spaces = 0;
    behind = flat_map param_spelling e.params ++ flat_map step_spelling e.steps;
    is = refl;
    name = c.source;
    items = params_items e.params (flat_map step_spelling e.steps) e.steps c.params (steps_items e.steps c.steps);
  };
  kept = c.kept;
  short = short;
}

pub one_expression : (text : List ℕ) (e other : Expression) → ExpressionText text e → ExpressionText text other → other ≡ e
one_expression text e other t u = let a : expression_of text ≡ Some e = reads text e t in let b : expression_of text ≡ Some other = reads text other u in cc
