-- Reached sources stand last, as a loop over the deps finds it.
use Rattle.std.proofs.Common.{◌≡◌, ◌∙◌, ◌<◌, ◌+◌, ℕ, drop, get_or, Bool, true, false, List, [], ◌∷◌, length, ap, sym, subst, refl}
use Rattle.std.specs.List.{All, flat_map}
use Rattle.std.proofs.lemmas.List.{drop_more}
use Rattle.std.proofs.lemmas.List.Elements.{All-cons, All-tail}
use Rattle.object_values.specs.declared.records.Role.TheVariants.{Reached}
use Rattle.object_values.specs.declared.facts.FactDep.{FactDep}
use Rattle.object_values.specs.declared.views.Value.{Value}
use Rattle.meaning_records.specs.Batches.{AreReachedLast, value_list}

abbrev pub values_in : List FactDep → List Value
values_in = flat_map (λ (d : FactDep). value_list d.value)

abbrev pub IsReached : FactDep → Type 0
IsReached d = d.role ≡ Reached

-- what has to hold of the deps that are left, where a reached source was met or none
abbrev pub MayFollow : Bool → List FactDep → Type 0
MayFollow true deps = All IsReached deps
MayFollow false deps = AreReachedLast deps

all_last : (deps : List FactDep) → All IsReached deps → AreReachedLast deps
all_last [] all = tt
all_last (d ∷ deps) all = (λ is. All-tail IsReached d deps all, all_last deps (All-tail IsReached d deps all))

reached_follows : (met : Bool) (d : FactDep) (deps : List FactDep) → IsReached d → MayFollow true deps → MayFollow met (d ∷ deps)
reached_follows true d deps is all = All-cons IsReached d deps is all
reached_follows false d deps is all = (λ e. all, all_last deps all)

follows : (met is : Bool) (d : FactDep) (deps : List FactDep) → (is ≡ true → IsReached d) → (is ≡ false → ¬ IsReached d)
    → (met ≡ true → is ≡ true) → MayFollow is deps → MayFollow met (d ∷ deps)
follows met true d deps is_so is_not goes rest = reached_follows met d deps (is_so refl) rest
follows true false d deps is_so is_not goes rest = absurd (let e : false ≡ true = goes refl in let no : ⊥ = cc in no)
follows false false d deps is_so is_not goes rest = (λ e. absurd (is_not refl e), rest)

-- one dep further
pub one_more : (deps : List FactDep) (i : ℕ) (d : FactDep) → i < length deps → d ≡ get_or deps i d → (met is : Bool) → (is ≡ true → IsReached d)
    → (is ≡ false → ¬ IsReached d) → (met ≡ true → is ≡ true) → MayFollow is (drop (i + 1) deps) → MayFollow met (drop i deps)
one_more deps i d inside at met is is_so is_not goes rest =
    let e : drop i deps ≡ d ∷ drop (i + 1) deps = drop_more deps i d inside ∙ ap (λ (x : FactDep). x ∷ drop (i + 1) deps) (sym at) in
    subst (MayFollow met) (sym e) (follows met is d (drop (i + 1) deps) is_so is_not goes rest)
