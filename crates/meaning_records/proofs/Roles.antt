-- The reached sources of a record stand last, and their count tells which they are.
use Rattle.std.proofs.Common.{◌≡◌, inl, inr, ℕ, ◌<◌, ◌≤◌, Bool, true, false, cond, nat_lt, List, [], ◌∷◌, length, All, refl, sym, ap, subst, ◌∙◌, arith}
use Rattle.std.specs.Prelude.{⊤}
use Rattle.std.proofs.lemmas.Bool.{ltb-true, lt-ltb, cases_lt}
use Rattle.std.proofs.lemmas.List.Elements.{All-nil, All-cons, All-head, All-tail}
use Rattle.object_values.specs.declared.records.Role.{Role}
use Rattle.object_values.specs.declared.records.Role.TheVariants.{Needed, Reached}
use Rattle.object_values.specs.declared.facts.FactDep.{FactDep}
use Rattle.object_values.specs.declared.facts.Fact.{Fact}
use Rattle.object_values.specs.declared.views.Value.{Value}
use Rattle.object_values.specs.declared.items.StoredDep.{StoredDep}
use Rattle.object_values.specs.declared.items.StoredRecord.{StoredRecord}
use Rattle.meaning_records.specs.Tables.{IsValueOf, role_before, AreDepsOf, IsFactOf}
use Rattle.meaning_records.specs.Batches.{AreReachedLast, reached_in, reached_count}

abbrev pub IsReached : FactDep → Type 0
IsReached dep = dep.role ≡ Reached

-- ---- the role of a dep after which so many come

reached_before : (more reached : ℕ) → more < reached → role_before more reached ≡ Reached
reached_before more reached less = ap (λ (t : Bool). cond t Reached Needed) (lt-ltb more reached less)

needed_before : (more reached : ℕ) → reached ≤ more → role_before more reached ≡ Needed
needed_before more reached less = by (nat_lt more reached) refl
  where
    by : (t : Bool) → nat_lt more reached ≡ t → role_before more reached ≡ Needed
    by true is = let under = ltb-true more reached is in absurd (omega (arith, under, less))
    by false is = ap (λ (t : Bool). cond t Reached Needed) is

-- ---- what a record says

-- where no more deps come than are reached, all are
all_reached : (contents : List Value) (reached : ℕ) (stored : List StoredDep) (deps : List FactDep) → AreDepsOf contents reached stored deps
    → length stored ≤ reached → All IsReached deps
all_reached contents reached [] [] are few = All-nil IsReached
all_reached contents reached [] (d ∷ deps) are few = absurd are
all_reached contents reached (s ∷ stored) [] are few = absurd are
all_reached contents reached (s ∷ stored) (d ∷ deps) are few =
    All-cons IsReached d deps (are.0.role ∙ reached_before (length stored) reached (omega (arith, few)))
    (all_reached contents reached stored deps are.1 (omega (arith, few)))

no_need : (more reached : ℕ) → Reached ≡ role_before more reached → more < reached
no_need more reached is = elim (cases_lt more reached) [
  | inl less ↦ less
  | inr few ↦ (let e : Reached ≡ Needed = is ∙ needed_before more reached few in let n : ⊥ = cc in absurd n)
]

stand_last : (contents : List Value) (reached : ℕ) (stored : List StoredDep) (deps : List FactDep) → AreDepsOf contents reached stored deps → AreReachedLast deps
stand_last contents reached [] [] are = tt
stand_last contents reached [] (d ∷ deps) are = absurd are
stand_last contents reached (s ∷ stored) [] are = absurd are
stand_last contents reached (s ∷ stored) (d ∷ deps) are = (
  λ is. let less = no_need (length stored) reached (sym is ∙ are.0.role) in all_reached contents reached stored deps are.1 (omega (arith, less)),
  stand_last contents reached stored deps are.1,
)

-- all of them, or as many as are told
count_all : (deps : List FactDep) → All IsReached deps → reached_count deps ≡ length deps
count_all [] all = refl
count_all (d ∷ deps) all =
    let one : reached_in d.role ≡ 1 = ap reached_in (All-head IsReached d deps all) in
    omega (arith, one, count_all deps (All-tail IsReached d deps all))

counted : (contents : List Value) (reached : ℕ) (stored : List StoredDep) (deps : List FactDep) → AreDepsOf contents reached stored deps
    → reached ≤ length stored → reached_count deps ≡ reached
counted contents reached [] [] are within = omega (arith, within)
counted contents reached [] (d ∷ deps) are within = absurd are
counted contents reached (s ∷ stored) [] are within = absurd are
counted contents reached (s ∷ stored) (d ∷ deps) are within = elim (cases_lt (length stored) reached) [
  | inl less ↦ (
      let all : All IsReached (d ∷ deps) = all_reached contents reached (s ∷ stored) (d ∷ deps) are less in
      omega (arith, count_all (d ∷ deps) all, same_length contents reached (s ∷ stored) (d ∷ deps) are, within, less))
  | inr few ↦ (
      let none : reached_in d.role ≡ 0 = ap reached_in (are.0.role ∙ needed_before (length stored) reached few) in
      omega (arith, none, counted contents reached stored deps are.1 few))
]
  where
    same_length : (contents : List Value) (reached : ℕ) (stored : List StoredDep) (deps : List FactDep) → AreDepsOf contents reached stored deps
        → length deps ≡ length stored
    same_length contents reached [] [] are = refl
    same_length contents reached [] (d ∷ deps) are = absurd are
    same_length contents reached (s ∷ stored) [] are = absurd are
    same_length contents reached (s ∷ stored) (d ∷ deps) are = omega (arith, same_length contents reached stored deps are.1)

pub reached_stand_last : (contents : List Value) (stored : StoredRecord) (fact : Fact) → IsFactOf contents stored fact → AreReachedLast fact.deps
reached_stand_last contents stored fact says = stand_last contents stored.reached stored.deps fact.deps says.deps

pub reached_are_counted : (contents : List Value) (stored : StoredRecord) (fact : Fact) → IsFactOf contents stored fact → stored.reached ≤ length stored.deps
    → reached_count fact.deps ≡ stored.reached
reached_are_counted contents stored fact says within = counted contents stored.reached stored.deps fact.deps says.deps within

-- ---- what a record is to say

-- a dep but for its role
pub record IsNeedOf (contents : List Value) (stored : StoredDep) (dep : FactDep) : Type 0 where
  pub node : dep.node ≡ stored.node
  pub value : IsValueOf contents stored.content dep.value

abbrev pub AreNeedsOf : List Value → List StoredDep → List FactDep → Type 0
AreNeedsOf contents [] [] = ⊤
AreNeedsOf contents [] (dep ∷ deps) = ⊥
AreNeedsOf contents (stored ∷ more) [] = ⊥
AreNeedsOf contents (stored ∷ more) (dep ∷ deps) = IsNeedOf contents stored dep × AreNeedsOf contents more deps

pub as_many : (contents : List Value) (stored : List StoredDep) (deps : List FactDep) → AreNeedsOf contents stored deps → length stored ≡ length deps
as_many contents [] [] are = refl
as_many contents [] (d ∷ deps) are = absurd are
as_many contents (s ∷ stored) [] are = absurd are
as_many contents (s ∷ stored) (d ∷ deps) are = omega (arith, as_many contents stored deps are.1)

pub count_within : (deps : List FactDep) → reached_count deps ≤ length deps
count_within [] = omega arith
count_within (d ∷ deps) = omega (arith, one d.role, count_within deps)
  where
    one : (role : Role) → reached_in role ≤ 1
    one Needed = omega arith
    one Reached = omega arith

deps_all_reached : (contents : List Value) (reached : ℕ) (stored : List StoredDep) (deps : List FactDep) → AreNeedsOf contents stored deps → All IsReached deps
    → length deps ≤ reached → AreDepsOf contents reached stored deps
deps_all_reached contents reached [] [] are all few = tt
deps_all_reached contents reached [] (d ∷ deps) are all few = absurd are
deps_all_reached contents reached (s ∷ stored) [] are all few = absurd are
deps_all_reached contents reached (s ∷ stored) (d ∷ deps) are all few = (
  record {
    node = are.0.node;
    role = All-head IsReached d deps all ∙ sym (reached_before (length stored) reached (omega (arith, few, as_many contents stored deps are.1)));
    value = are.0.value;
  },
  deps_all_reached contents reached stored deps are.1 (All-tail IsReached d deps all) (omega (arith, few)),
)

-- Deps whose reached sources stand last are told by their count.
pub deps_by_count : (contents : List Value) (stored : List StoredDep) (deps : List FactDep) → AreNeedsOf contents stored deps → AreReachedLast deps
    → AreDepsOf contents (reached_count deps) stored deps
deps_by_count contents [] [] are last = tt
deps_by_count contents [] (d ∷ deps) are last = absurd are
deps_by_count contents (s ∷ stored) [] are last = absurd are
deps_by_count contents (s ∷ stored) (d ∷ deps) are last = by d.role refl (deps_by_count contents stored deps are.1 last.1)
  where
    by : (role : Role) → d.role ≡ role → AreDepsOf contents (reached_count deps) stored deps
        → AreDepsOf contents (reached_count (d ∷ deps)) (s ∷ stored) (d ∷ deps)
    by Reached is rest =
        let all : All IsReached (d ∷ deps) = All-cons IsReached d deps is (last.0 is) in
        deps_all_reached contents (reached_count (d ∷ deps)) (s ∷ stored) (d ∷ deps) are all (omega (arith, count_all (d ∷ deps) all))
    by Needed is rest =
        let none : reached_in d.role ≡ 0 = ap reached_in is in
        let same : reached_count deps ≡ reached_count (d ∷ deps) = omega (arith, none) in
        let few : reached_count (d ∷ deps) ≤ length stored = omega (arith, same, count_within deps, as_many contents stored deps are.1) in (
          record { node = are.0.node; role = is ∙ sym (needed_before (length stored) (reached_count (d ∷ deps)) few); value = are.0.value },
          subst (λ n. AreDepsOf contents n stored deps) same rest,
        )
