-- Well formed calls, and outcomes that fit them, as tests that compute.
use Rattle.std.specs.Prelude.{ℕ, Bool, true, false, ◌&&◌, not, ◌==◌, cond, nat_eq, nat_lt, nat_le, List, [], ◌∷◌, length, Option, Some, None}
use Rattle.std.specs.List.{list_all}
use Rattle.std.specs.Cmp.Lexicographic.{pointwise}
use Rattle.object_values.specs.declared.messages.Status.{Status}
use Rattle.object_values.specs.declared.messages.Status.TheVariants.{Ok, Warning, Error, Abort}
use Rattle.object_values.specs.declared.views.Part.{Part}
use Rattle.object_values.specs.declared.calls.CallPart.{CallPart}
use Rattle.object_values.specs.declared.calls.Call.{Call}
use Rattle.object_values.specs.declared.calls.Outcome.{Outcome}
use Rattle.meaning_texts.specs.Limits.{body_limit, slot_bound}
use Rattle.meaning_texts.specs.Lists.{is_empty}
use Rattle.meaning_texts.specs.Tests.{is_name, is_id, is_param_of_class}

-- ---- calls

-- neither a space nor an LF
abbrev pub is_label_byte : ℕ → Bool
is_label_byte b = not (b == 32) && not (b == 10)

abbrev pub is_label : List ℕ → Bool
is_label = list_all is_label_byte

abbrev pub is_short : Option (List ℕ) → Bool
is_short None = true
is_short (Some body) = nat_le (length body) body_limit

abbrev pub is_part_of_class : CallPart → Bool
is_part_of_class part = nat_lt part.slot slot_bound && is_label part.label && is_short part.body

abbrev pub is_well_formed : Call → Bool
is_well_formed call =
    is_id call.tool && is_name call.version && list_all is_param_of_class call.params
    && list_all is_part_of_class call.parts && list_all is_id call.outs

-- ---- outcomes

abbrev pub are_named : List Part → List (List ℕ) → Bool
are_named [] [] = true
are_named [] (name ∷ names) = false
are_named (output ∷ outputs) [] = false
are_named (output ∷ outputs) (name ∷ names) = pointwise nat_eq output.name name && are_named outputs names

abbrev pub is_short_output : Part → Bool
is_short_output output = nat_le (length output.body) body_limit

abbrev pub is_abort : Status → Bool
is_abort Ok = false
is_abort Warning = false
is_abort Error = false
is_abort Abort = true

abbrev pub outcome_fits : Call → Outcome → Bool
outcome_fits call outcome =
    cond (is_abort outcome.status) (is_empty outcome.outputs) (are_named outcome.outputs call.outs && list_all is_short_output outcome.outputs)
