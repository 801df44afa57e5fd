-- Calls of a list, by the test of equality.
use Rattle.std.proofs.Common.{◌≡◌, Bool, true, false, cond, List, [], ◌∷◌, ◌++◌, ◌⊎◌, inl, inr, sym, ap, ◌∙◌, subst, refl, true≢false}
use Rattle.std.specs.Prelude.{◌≢◌, ◌↔◌, Some}
use Rattle.std.specs.List.{AllByRecursion, IsDistinct, find}
use Rattle.object_values.specs.declared.calls.Call.{Call}
use Rattle.object_values.specs.contracts.calls.CallPartialEq.TheImpl.{ghosts as call_eq}
use Rattle.object_values.specs.Exact.{call_exact}
use Rattle.meaning_texts.specs.Lists.{IsIn}
use Rattle.meaning_texts.proofs.Lemmas.{one_passes, passes_one, in_left, in_right, in_either}
use Rattle.derive_walk.specs.Calls.{AreOnce, IsWithout, call_in, put_in}

pub found_in : (calls : List Call) (call : Call) → call_in call calls ≡ true → IsIn call calls
found_in calls call e = let r = one_passes (call_eq.eq call) calls e in subst (λ z. IsIn z calls) (sym ((call_exact call r.0).0 r.2)) r.1

pub in_found : (calls : List Call) (call : Call) → IsIn call calls → call_in call calls ≡ true
in_found calls call i = passes_one (call_eq.eq call) call calls i ((call_exact call call).1 refl)

-- ---- each once

differs : (c : Call) (calls : List Call) → AllByRecursion (λ y. call_eq.eq c y ≡ false) calls → IsIn c calls → ⊥
differs c [] all i = i
differs c (y ∷ calls) all (inl e) = true≢false (sym ((call_exact c y).1 e) ∙ all.0)
differs c (y ∷ calls) all (inr i) = differs c calls all.1 i

pub once : (calls : List Call) → IsDistinct call_eq.eq calls → AreOnce calls
unfolding IsDistinct
once [] distinct = tt
once (c ∷ calls) distinct = (differs c calls distinct.0, once calls distinct.1)

-- ---- one call less

-- the second list has the calls of the first but one
abbrev pub LacksOne : List Call → List Call → Call → Type 0
LacksOne old new call = (q : Call) → call_in q new ≡ cond (call_eq.eq call q) false (call_in q old)

pub taken_out : (old new : List Call) (call : Call) → LacksOne old new call → IsWithout call old new
taken_out old new call lacks c = by (call_eq.eq call c) refl (lacks c)
  where
    by : (b : Bool) → call_eq.eq call c ≡ b → call_in c new ≡ cond b false (call_in c old) → IsIn c new ↔ (IsIn c old × (c ≢ call))
    by true e is = (λ i. absurd (true≢false (sym (in_found new c i) ∙ is)), λ h. absurd (h.1 (sym ((call_exact call c).0 e))))
    by false e is = (λ i. (found_in old c (sym is ∙ in_found new c i), λ same. true≢false (sym ((call_exact call c).1 (sym same)) ∙ e)), λ h. found_in new c (is ∙ in_found old c h.0))

-- what is found there is the call itself
pub found_one : (calls : List Call) (call : Call) → IsIn call calls → find (call_eq.eq call) calls ≡ Some call
found_one [] call i = elim i [ ]
found_one (c ∷ calls) call i = by_test (call_eq.eq call c) refl i (found_one calls call)
  where
    by_test : (b : Bool) → call_eq.eq call c ≡ b → (call ≡ c) ⊎ IsIn call calls → (IsIn call calls → find (call_eq.eq call) calls ≡ Some call) → cond b (Some c) (find (call_eq.eq call) calls) ≡ Some call
    by_test true e here more = ap Some (sym ((call_exact call c).0 e))
    by_test false e (inl same) more = absurd (true≢false (sym ((call_exact call c).1 same) ∙ e))
    by_test false e (inr i) more = more i

-- ---- one call more

pub put_keeps : (call c : Call) (calls : List Call) → IsIn c calls → IsIn c (put_in call calls)
put_keeps call c calls i = elim (call_in call calls) as (λ b. IsIn c (cond b calls (calls ++ call ∷ []))) [
  | true ↦ i
  | false ↦ in_left c calls (call ∷ []) i
]

pub put_there : (call : Call) (calls : List Call) → IsIn call (put_in call calls)
put_there call calls = (elim (call_in call calls) as (λ b. call_in call calls ≡ b → IsIn call (cond b calls (calls ++ call ∷ []))) [
  | true ↦ λ e. found_in calls call e
  | false ↦ λ e. in_right call calls (call ∷ []) (inl refl)
]) refl

pub from_put : (call c : Call) (calls : List Call) → IsIn c (put_in call calls) → IsIn c calls ⊎ (c ≡ call)
from_put call c calls i = (elim (call_in call calls) as (λ b. IsIn c (cond b calls (calls ++ call ∷ [])) → IsIn c calls ⊎ (c ≡ call)) [
  | true ↦ λ h. inl h
  | false ↦ λ h. elim (in_either c calls (call ∷ []) h) [ inl k ↦ inl k | inr k ↦ elim k [ inl e ↦ inr e | inr none ↦ absurd none ] ]
]) i

once_more : (call : Call) (calls : List Call) → (IsIn call calls → ⊥) → AreOnce calls → AreOnce (calls ++ call ∷ [])
once_more call [] apart once = (λ i. i, tt)
once_more call (c ∷ calls) apart once = (
  λ i. elim (in_either c calls (call ∷ []) i) [ inl k ↦ once.0 k | inr k ↦ elim k [ inl e ↦ apart (inl (sym e)) | inr none ↦ none ] ],
  once_more call calls (λ i. apart (inr i)) once.1,
)

pub put_once : (call : Call) (calls : List Call) → AreOnce calls → AreOnce (put_in call calls)
put_once call calls once = (elim (call_in call calls) as (λ b. call_in call calls ≡ b → AreOnce (cond b calls (calls ++ call ∷ []))) [
  | true ↦ λ e. once
  | false ↦ λ e. once_more call calls (λ i. true≢false (sym (in_found calls call i) ∙ e)) once
]) refl
