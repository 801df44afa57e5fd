-- Places of lists that are gone through side by side.
use Rattle.std.proofs.Common.{◌≡◌, ℕ, suc, ◌+◌, ◌<◌, true, false, cond, List, [], ◌∷◌, ap, refl, arith, drop, get_or, length, add-one, drop-cons}
use Rattle.std.specs.Prelude.{Option, Some, None, option_map}
use Rattle.object_values.specs.declared.records.Dep.{Dep}
use Rattle.validator.specs.declared.verdict.Now.{Now}
use Rattle.validator.specs.Verdicts.{is_same, difference}

-- a place after so many others
abbrev pub places_on : ℕ → Option ℕ → Option ℕ
places_on k o = option_map (λ m. k + m) o

pub places_on_one : (k : ℕ) (o : Option ℕ) → places_on k (option_map suc o) ≡ places_on (k + 1) o
places_on_one k None = refl
places_on_one k (Some m) = ap Some (omega arith)

pub at_first : {A : Type 0} (xs : List A) (i : ℕ) (x : A) → i < length xs → x ≡ get_or xs i x → drop i xs ≡ x ∷ drop (i + 1) xs
at_first xs i x h is = rw (add-one, drop-cons xs i x) (rw (← is) refl)

-- one place further
pub one_same : (d : Dep) (n : Now) (deps : List Dep) (now : List Now) → is_same d n ≡ true → difference (d ∷ deps) (n ∷ now) ≡ option_map suc (difference deps now)
one_same d n deps now e = ap (λ b. cond b (option_map suc (difference deps now)) (Some 0)) e

pub one_differs : (d : Dep) (n : Now) (deps : List Dep) (now : List Now) → is_same d n ≡ false → difference (d ∷ deps) (n ∷ now) ≡ Some 0
one_differs d n deps now e = ap (λ b. cond b (option_map suc (difference deps now)) (Some 0)) e

-- more needs than deps
pub one_more : (deps : List Dep) (now : List Now) → deps ≡ [] → 0 < length now → difference deps now ≡ Some 0
one_more [] [] e h = let no : ⊥ = omega (arith, h) in absurd no
one_more [] (n ∷ now) e h = refl
one_more (d ∷ deps) now e h = let no : ⊥ = cc in absurd no
