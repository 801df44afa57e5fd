-- The computed tests hold of the well formed calls, and of the outcomes that fit, alone.
use Rattle.std.proofs.Common.{◌≡◌, ◌≢◌, ℕ, ◌≤◌, Bool, false, not, ◌&&◌, List, [], ◌∷◌, length, map, Option, Some, None, refl, inl, inr, ◌⊎◌}
use Rattle.std.specs.Prelude.{nat_lt, nat_le, nat_eq, bytes_eq, IfSome}
use Rattle.std.specs.Bool.{Decides}
use Rattle.std.specs.List.{list_all, All}
use Rattle.std.specs.Cmp.Lexicographic.{pointwise, pointwise_decides, bytes_decides}
use Rattle.std.proofs.lemmas.Bool.{leb-true, le-leb, both_ways}
use Rattle.std.proofs.lemmas.Bool.Decides.{Decides-and, Decides-not, Decides-like, Decides-by_and, Decides-ltb, Decides-eqb}
use Rattle.object_values.specs.declared.messages.Status.{Status}
use Rattle.object_values.specs.declared.messages.Status.TheVariants.{Ok, Warning, Error, Abort}
use Rattle.object_values.specs.declared.views.Part.{Part}
use Rattle.object_values.specs.declared.calls.CallPart.{CallPart}
use Rattle.object_values.specs.declared.calls.Call.{Call}
use Rattle.object_values.specs.declared.calls.Outcome.{Outcome}
use Rattle.meaning_texts.specs.Lists.{is_empty}
use Rattle.meaning_texts.specs.Classes.{is_name_byte, IsId}
use Rattle.meaning_texts.specs.Limits.{body_limit, slot_bound}
use Rattle.meaning_texts.specs.Tests.{is_name, is_id, is_param_of_class}
use Rattle.meaning_texts.specs.Expressions.{IsParamOfClass}
use Rattle.meaning_texts.proofs.Lemmas.{word_decides, id_decides, param_decides}
use Rattle.meaning_calls.specs.Jobs.{IsLabel, IsPartOfClass, IsWellFormed}
use Rattle.meaning_calls.specs.Outcomes.{OutcomeFits}
use Rattle.meaning_calls.specs.Tests.{is_label, is_short_or_none, is_part_of_class, is_well_formed, outputs_fit, outcome_fits}

all_decides : {X : Type 0} (p : X → Bool) (P : X → Type 0) → ((x : X) → Decides (p x) (P x)) → (xs : List X) → Decides (list_all p xs) (All P xs)
all_decides p P each xs = Decides-by_and p P (list_all p) each refl (λ x ys. refl) xs

le_decides : (a b : ℕ) → Decides (nat_le a b) (a ≤ b)
le_decides a b = (leb-true a b, le-leb a b)

-- ---- calls

label_decides : (label : List ℕ) → Decides (is_label label) (IsLabel label)
label_decides label = all_decides (λ b. not (nat_eq b 32) && not (nat_eq b 10)) (λ b. (b ≢ 32) × (b ≢ 10)) (λ b. Decides-and (not (nat_eq b 32)) (not (nat_eq b 10)) (Decides-not (nat_eq b 32) (Decides-eqb b 32)) (Decides-not (nat_eq b 10) (Decides-eqb b 10))) label

body_decides : (body : Option (List ℕ)) → Decides (is_short_or_none body) (IfSome body (λ (b : List ℕ). length b ≤ body_limit))
body_decides None = (λ e. tt, λ t. refl)
body_decides (Some body) = le_decides (length body) body_limit

part_decides : (part : CallPart) → Decides (is_part_of_class part) (IsPartOfClass part)
part_decides part = Decides-like (is_part_of_class part) (λ h. record { slot = h.0; label = h.1.0; body = h.1.1 }) (λ r. (r.slot, (r.label, r.body)))
    (Decides-and (nat_lt part.slot slot_bound) _ (Decides-ltb part.slot slot_bound) (Decides-and (is_label part.label) (is_short_or_none part.body) (label_decides part.label) (body_decides part.body)))

pub well_formed_decides : (call : Call) → Decides (is_well_formed call) (IsWellFormed call)
unfolding is_well_formed
well_formed_decides call = Decides-like (is_well_formed call) (λ h. record { tool = h.0; version = h.1.0; params = h.1.1.0; parts = h.1.1.1.0; outs = h.1.1.1.1 }) (λ r. (r.tool, (r.version, (r.params, (r.parts, r.outs)))))
    (Decides-and (is_id call.tool) _ (id_decides call.tool) (Decides-and (is_name call.version) _ (word_decides is_name_byte call.version)
    (Decides-and (list_all is_param_of_class call.params) _ (all_decides is_param_of_class IsParamOfClass param_decides call.params)
    (Decides-and (list_all is_part_of_class call.parts) (list_all is_id call.outs) (all_decides is_part_of_class IsPartOfClass part_decides call.parts) (all_decides is_id IsId id_decides call.outs)))))

-- ---- outcomes

abbrev OutputsFit : List (List ℕ) → Status → List Part → Type 0
OutputsFit outs status outputs = ((status ≡ Abort) × (outputs ≡ [])) ⊎ ((status ≢ Abort) × (map (λ (p : Part). p.name) outputs ≡ outs))

names_decide : (outs : List (List ℕ)) (status : Status) (outputs : List Part) → status ≢ Abort → Decides (pointwise bytes_eq (map (λ (p : Part). p.name) outputs) outs) (OutputsFit outs status outputs)
names_decide outs status outputs off = let d = pointwise_decides bytes_decides (map (λ (p : Part). p.name) outputs) outs in (λ e. inr (off, d.0 e), λ f. elim f [ inl h ↦ absurd (off h.0) | inr h ↦ d.1 h.1 ])

none_decides : (outputs : List Part) → Decides (is_empty outputs) (outputs ≡ [])
none_decides [] = (λ e. refl, λ e. refl)
none_decides (part ∷ rest) = (λ e. absurd (both_ways false refl e), λ e. let n : ⊥ = cc in absurd n)

outputs_decide : (outs : List (List ℕ)) (status : Status) (outputs : List Part) → Decides (outputs_fit outs status outputs) (OutputsFit outs status outputs)
outputs_decide outs Ok outputs = names_decide outs Ok outputs (λ e. cc)
outputs_decide outs Warning outputs = names_decide outs Warning outputs (λ e. cc)
outputs_decide outs Error outputs = names_decide outs Error outputs (λ e. cc)
outputs_decide outs Abort outputs = let d : Decides (is_empty outputs) (outputs ≡ []) = none_decides outputs in (λ e. inl (refl, d.0 e), λ f. elim f [ inl h ↦ d.1 h.1 | inr h ↦ absurd (h.0 refl) ])

pub fits_decides : (call : Call) (outcome : Outcome) → Decides (outcome_fits call outcome) (OutcomeFits call outcome)
unfolding outcome_fits
fits_decides call outcome = Decides-like (outcome_fits call outcome) (λ h. record { outputs = h.0; short = h.1 }) (λ r. (r.outputs, r.short))
    (Decides-and (outputs_fit call.outs outcome.status outcome.outputs) (list_all (λ (p : Part). nat_le (length p.body) body_limit) outcome.outputs) (outputs_decide call.outs outcome.status outcome.outputs)
    (all_decides (λ (p : Part). nat_le (length p.body) body_limit) (λ (p : Part). length p.body ≤ body_limit) (λ p. le_decides (length p.body) body_limit) outcome.outputs))
