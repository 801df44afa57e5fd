-- The tests of well formed calls and of outcomes that fit, computed.
use Rattle.std.specs.Prelude.{ℕ, Bool, true, not, ◌&&◌, nat_lt, nat_le, ◌==◌, List, length, map, Option, Some, None, bytes_eq}
use Rattle.std.specs.List.{list_all}
use Rattle.std.specs.Cmp.Lexicographic.{pointwise}
use Rattle.object_values.specs.declared.messages.Status.{Status}
use Rattle.object_values.specs.declared.messages.Status.TheVariants.{Abort}
use Rattle.object_values.specs.declared.views.Part.{Part}
use Rattle.object_values.specs.declared.calls.CallPart.{CallPart}
use Rattle.object_values.specs.declared.calls.Call.{Call}
use Rattle.object_values.specs.declared.calls.Outcome.{Outcome}
use Rattle.meaning_texts.specs.Limits.{body_limit, slot_bound}
use Rattle.meaning_texts.specs.Lists.{is_empty}
use Rattle.meaning_texts.specs.Tests.{is_name, is_id, is_param_of_class}

-- ---- calls

abbrev pub is_label : List ℕ → Bool
is_label label = list_all (λ b. not (b == 32) && not (b == 10)) label

abbrev pub is_short_or_none : Option (List ℕ) → Bool
is_short_or_none None = true
is_short_or_none (Some body) = nat_le (length body) body_limit

abbrev pub is_part_of_class : CallPart → Bool
is_part_of_class part =
    nat_lt part.slot slot_bound && (is_label part.label && is_short_or_none part.body)

unfoldable pub is_well_formed : Call → Bool
is_well_formed call =
    is_id call.tool
    && (is_name call.version
    && (list_all is_param_of_class call.params
    && (list_all is_part_of_class call.parts && list_all is_id call.outs)))

-- ---- outcomes

-- at `Abort` there are no outputs, else their names are the call's in order
abbrev pub outputs_fit : List (List ℕ) → Status → List Part → Bool
outputs_fit outs Abort outputs = is_empty outputs
outputs_fit outs status outputs = pointwise bytes_eq (map (λ (p : Part). p.name) outputs) outs

unfoldable pub outcome_fits : Call → Outcome → Bool
outcome_fits call outcome =
    outputs_fit call.outs outcome.status outcome.outputs
    && list_all (λ (p : Part). nat_le (length p.body) body_limit) outcome.outputs
