-- The tests of outcomes decide whether they fit.
use Rattle.std.proofs.Common.{◌≡◌, ◌≢◌, ◌≤◌, ℕ, Bool, true, false, cond, List, [], ◌∷◌, inl, inr, length, map, ap, rules, refl, true≢false, sym, suc}
use Rattle.std.specs.Prelude.{◌&&◌, All, nat_eq}
use Rattle.std.specs.List.{list_all}
use Rattle.std.specs.Bool.{Decides}
use Rattle.std.specs.Cmp.Lexicographic.{pointwise, bytes_decides}
use Rattle.std.proofs.lemmas.Bool.{and_parts, and_from, leb-true, le-leb}
use Rattle.std.proofs.lemmas.List.Elements.{All-nil}
use Rattle.object_values.specs.declared.messages.Status.{Status}
use Rattle.object_values.specs.declared.messages.Status.TheVariants.{Abort}
use Rattle.object_values.specs.declared.views.Part.{Part}
use Rattle.object_values.specs.declared.calls.Call.{Call}
use Rattle.object_values.specs.declared.calls.Outcome.{Outcome}
use Rattle.meaning_texts.specs.Lists.{is_empty}
use Rattle.meaning_texts.specs.Limits.{body_limit}
use Rattle.meaning_calls.specs.Outcomes.{OutcomeFits}
use Rattle.kept_tables.specs.Tests.{are_named, is_abort, is_short_output, outcome_fits}
use Rattle.kept_tables.proofs.CallLemmas.{all_decides}

names_of : List Part → List (List ℕ)
names_of outputs = map (λ (p : Part). p.name) outputs

named_decides : (outputs : List Part) (names : List (List ℕ)) → Decides (are_named outputs names) (map (λ (p : Part). p.name) outputs ≡ names)
named_decides [] [] = (λ e. refl, λ e. refl)
named_decides [] (name ∷ names) = (λ e. cc, λ e. cc)
named_decides (output ∷ outputs) [] = (λ e. cc, λ e. cc)
named_decides (output ∷ outputs) (name ∷ names) =
    let one = bytes_decides output.name name in
    let rest = named_decides outputs names in (
      λ e. let h = and_parts (pointwise nat_eq output.name name) (are_named outputs names) e in let a = one.0 h.0 in let b = rest.0 h.1 in cc,
      λ e. let a : output.name ≡ name = cc in let b : map (λ (p : Part). p.name) outputs ≡ names = cc in and_from _ _ (one.1 a) (rest.1 b),
    )

-- lists of unlike lengths
pub apart_unnamed : (outputs : List Part) (names : List (List ℕ)) → (length outputs ≢ length names) → false ≡ are_named outputs names
apart_unnamed [] [] apart = absurd (apart refl)
apart_unnamed [] (name ∷ names) apart = refl
apart_unnamed (output ∷ outputs) [] apart = refl
apart_unnamed (output ∷ outputs) (name ∷ names) apart = by_test (pointwise nat_eq output.name name) (apart_unnamed outputs names (λ e. apart (ap suc e)))
  where
    by_test : (t : Bool) → false ≡ are_named outputs names → false ≡ (t && are_named outputs names)
    by_test true e = e
    by_test false e = refl

short_decides : (output : Part) → Decides (is_short_output output) (length output.body ≤ body_limit)
short_decides output = (leb-true (length output.body) body_limit, le-leb (length output.body) body_limit)

all_short : (outputs : List Part) → Decides (list_all is_short_output outputs) (All (λ (p : Part). length p.body ≤ body_limit) outputs)
all_short = all_decides is_short_output (λ (p : Part). length p.body ≤ body_limit) short_decides

abort_decides : (s : Status) → Decides (is_abort s) (s ≡ Abort)
abort_decides s = search rules

empty_decides : (outputs : List Part) → Decides (is_empty outputs) (outputs ≡ [])
empty_decides [] = (λ e. refl, λ e. refl)
empty_decides (output ∷ outputs) = (λ e. cc, λ e. cc)

pub fits_decides : (call : Call) (outcome : Outcome) → Decides (outcome_fits call outcome) (OutcomeFits call outcome)
fits_decides call outcome = by_test (is_abort outcome.status) (abort_decides outcome.status)
  where
    by_test : (t : Bool) → Decides t (outcome.status ≡ Abort) → Decides (cond t (is_empty outcome.outputs) (are_named outcome.outputs call.outs && list_all is_short_output outcome.outputs)) (OutcomeFits call outcome)
    by_test true abort = (
      λ e. let none = (empty_decides outcome.outputs).0 e in record { outputs = inl (abort.0 refl, none); short = rw none (All-nil (λ (p : Part). length p.body ≤ body_limit)) },
      λ f. elim f.outputs [ inl a ↦ (empty_decides outcome.outputs).1 a.1 | inr b ↦ absurd (b.0 (abort.0 refl)) ],
    )
    by_test false abort = (
      λ e. let h = and_parts (are_named outcome.outputs call.outs) (list_all is_short_output outcome.outputs) e in record { outputs = inr (λ same. true≢false (sym (abort.1 same)), (named_decides outcome.outputs call.outs).0 h.0); short = (all_short outcome.outputs).0 h.1 },
      λ f. elim f.outputs [ inl a ↦ absurd (true≢false (sym (abort.1 a.0))) | inr b ↦ and_from _ _ ((named_decides outcome.outputs call.outs).1 b.1) ((all_short outcome.outputs).1 f.short) ],
    )
