-- The number of a value, and contents with one more.
use Rattle.std.proofs.Common.{◌≡◌, ℕ, zero, suc, Bool, true, false, cond, List, [], ◌∷◌, ◌++◌, ◌⊎◌, inl, inr, length, ap, sym, ◌∙◌, subst, refl, true≢false, rules}
use Rattle.std.specs.Prelude.{◌↔◌, Option, Some, None, option_map, slice_get}
use Rattle.std.specs.Bool.{Decides}
use Rattle.std.specs.Cmp.Lexicographic.{bytes_decides, pointwise_decides}
use Rattle.std.proofs.lemmas.Option.{none-some, same_Some}
use Rattle.object_values.specs.Exact.{node_exact}
use Rattle.object_values.specs.declared.views.Part.{Part}
use Rattle.object_values.specs.declared.views.Value.{Value}
use Rattle.object_values.specs.declared.views.Value.TheVariants.{Simple, List as Listed, Compound}
use Rattle.object_values.specs.contracts.views.PartPartialEq.TheImpl.{ghosts as part_eq}
use Rattle.object_values.specs.contracts.views.ValuePartialEq.TheImpl.{ghosts as value_eq}
use Rattle.meaning_records.specs.Numbers.{number_of, NumbersTellValues}

part_exact : (x y : Part) → Decides (part_eq.eq x y) (x ≡ y)
part_exact x y = search (rules, bytes_decides x.name y.name, bytes_decides x.body y.body)

pub value_exact : (x y : Value) → Decides (value_eq.eq x y) (x ≡ y)
value_exact (Simple a) (Simple b) = search (rules, bytes_decides a b)
value_exact (Simple a) (Listed b) = search rules
value_exact (Simple a) (Compound b) = search rules
value_exact (Listed a) (Simple b) = search rules
value_exact (Listed a) (Listed b) = search (rules, pointwise_decides node_exact a b)
value_exact (Listed a) (Compound b) = search rules
value_exact (Compound a) (Simple b) = search rules
value_exact (Compound a) (Listed b) = search rules
value_exact (Compound a) (Compound b) = search (rules, pointwise_decides part_exact a b)

-- ---- where a value stands

pub leads_back : (value : Value) (contents : List Value) (i : ℕ) → number_of value contents ≡ Some i → slice_get contents i ≡ Some value
leads_back value [] i e = absurd (none-some i e)
leads_back value (c ∷ contents) i e = by_test (value_eq.eq value c) refl (number_of value contents) (leads_back value contents) e
  where
    by_test : (t : Bool) → value_eq.eq value c ≡ t → (o : Option ℕ) → ((j : ℕ) → o ≡ Some j → slice_get contents j ≡ Some value) → cond t (Some 0) (option_map suc o) ≡ Some i → slice_get (c ∷ contents) i ≡ Some value
    by_test true same o below e = subst (λ k. slice_get (c ∷ contents) k ≡ Some value) (same_Some 0 i e) (ap Some (sym ((value_exact value c).0 same)))
    by_test false apart None below e = absurd (none-some i e)
    by_test false apart (Some j) below e = subst (λ k. slice_get (c ∷ contents) k ≡ Some value) (same_Some (suc j) i e) (below j refl)

pub none_nowhere : (value : Value) (contents : List Value) (i : ℕ) → number_of value contents ≡ None → slice_get contents i ≡ Some value → ⊥
none_nowhere value [] i e h = none-some value h
none_nowhere value (c ∷ contents) i e h = by_test (value_eq.eq value c) refl (number_of value contents) (none_nowhere value contents) e i h
  where
    by_test : (t : Bool) → value_eq.eq value c ≡ t → (o : Option ℕ) → ((j : ℕ) → o ≡ None → slice_get contents j ≡ Some value → ⊥) → cond t (Some 0) (option_map suc o) ≡ None → (i : ℕ) → slice_get (c ∷ contents) i ≡ Some value → ⊥
    by_test true same o below e i h = none-some 0 (sym e)
    by_test false apart (Some j) below e i h = none-some (suc j) (sym e)
    by_test false apart None below e zero h = true≢false (sym ((value_exact value c).1 (sym (same_Some c value h))) ∙ apart)
    by_test false apart None below e (suc i) h = below i refl h

pub numbered : (value : Value) (contents : List Value) (i : ℕ) → slice_get contents i ≡ Some value → (n : ℕ) × (number_of value contents ≡ Some n)
numbered value contents i h = (elim (number_of value contents) as (λ o. number_of value contents ≡ o → (n : ℕ) × (number_of value contents ≡ Some n)) [
  | None ↦ λ e. absurd (none_nowhere value contents i e h)
  | Some n ↦ λ e. (n, e)
]) refl

pub nowhere_none : (value : Value) (contents : List Value) → ((i : ℕ) → slice_get contents i ≡ Some value → ⊥) → number_of value contents ≡ None
nowhere_none value contents nowhere = (elim (number_of value contents) as (λ o. number_of value contents ≡ o → number_of value contents ≡ None) [
  | None ↦ λ e. e
  | Some i ↦ λ e. absurd (nowhere i (leads_back value contents i e))
]) refl

-- ---- more contents

pub number_stays : (value : Value) (contents later : List Value) (i : ℕ) → number_of value contents ≡ Some i → number_of value (contents ++ later) ≡ Some i
number_stays value [] later i e = absurd (none-some i e)
number_stays value (c ∷ contents) later i e = by_test (value_eq.eq value c) (number_of value contents) (number_stays value contents later) e
  where
    by_test : (t : Bool) (o : Option ℕ) → ((j : ℕ) → o ≡ Some j → number_of value (contents ++ later) ≡ Some j) → cond t (Some 0) (option_map suc o) ≡ Some i → cond t (Some 0) (option_map suc (number_of value (contents ++ later))) ≡ Some i
    by_test true o below e = e
    by_test false None below e = absurd (none-some i e)
    by_test false (Some j) below e = ap (option_map suc) (below j refl) ∙ e

pub number_behind : (value : Value) (contents : List Value) → number_of value contents ≡ None → number_of value (contents ++ value ∷ []) ≡ Some (length contents)
number_behind value [] e = ap (λ t. cond t (Some 0) None) ((value_exact value value).1 refl)
number_behind value (c ∷ contents) e = by_test (value_eq.eq value c) (number_of value contents) (number_behind value contents) e
  where
    by_test : (t : Bool) (o : Option ℕ) → (o ≡ None → number_of value (contents ++ value ∷ []) ≡ Some (length contents)) → cond t (Some 0) (option_map suc o) ≡ None → cond t (Some 0) (option_map suc (number_of value (contents ++ value ∷ []))) ≡ Some (suc (length contents))
    by_test true o below e = absurd (none-some 0 (sym e))
    by_test false (Some j) below e = absurd (none-some (suc j) (sym e))
    by_test false None below e = ap (option_map suc) (below refl)

last_there : (contents : List Value) (c value : Value) (i : ℕ) → slice_get (contents ++ c ∷ []) i ≡ Some value → (slice_get contents i ≡ Some value) ⊎ ((i ≡ length contents) × (value ≡ c))
last_there [] c value zero h = inr (refl, sym (same_Some c value h))
last_there [] c value (suc i) h = absurd (none-some value h)
last_there (x ∷ contents) c value zero h = inl h
last_there (x ∷ contents) c value (suc i) h = elim (last_there contents c value i h) [ inl before ↦ inl before | inr last ↦ inr (ap suc last.0, last.1) ]

-- a value of contents with one more had its number before, or is the last
pub number_before : (contents : List Value) (c value : Value) (i : ℕ) → number_of value (contents ++ c ∷ []) ≡ Some i → (number_of value contents ≡ Some i) ⊎ ((number_of value contents ≡ None) × (value ≡ c) × (i ≡ length contents))
number_before contents c value i e = (elim (number_of value contents) as (λ o. number_of value contents ≡ o → (number_of value contents ≡ Some i) ⊎ ((number_of value contents ≡ None) × (value ≡ c) × (i ≡ length contents))) [
  | None ↦ λ none. elim (last_there contents c value i (leads_back value (contents ++ c ∷ []) i e)) [
    | inl before ↦ absurd (none_nowhere value contents i none before)
    | inr last ↦ inr (none, last.1, last.0)
  ]
  | Some n ↦ λ at. inl (at ∙ sym (number_stays value contents (c ∷ []) n at) ∙ e)
]) refl

-- ---- the law

exact : (contents later : List Value) (a b : Value) (m n : ℕ) → number_of a contents ≡ Some m → number_of b (contents ++ later) ≡ Some n → (m ≡ n) ↔ (a ≡ b)
exact contents later a b m n at_m at_n =
    let kept = number_stays a contents later m at_m in (
      λ same. same_Some a b (sym (leads_back a (contents ++ later) m kept) ∙ ap (slice_get (contents ++ later)) same ∙ leads_back b (contents ++ later) n at_n),
      λ same. same_Some m n (sym kept ∙ ap (λ v. number_of v (contents ++ later)) same ∙ at_n),
    )

pub numbers_tell : NumbersTellValues
numbers_tell = record { leads_back = leads_back; numbered = numbered; stays = number_stays; exact = exact }
