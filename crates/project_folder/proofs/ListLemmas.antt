-- Steps of loops over lists.
use Rattle.std.proofs.Common.{◌≡◌, ◌<◌, ℕ, ◌+◌, Bool, true, false, ◌||◌, List, [], ◌∷◌, ◌++◌, length, get_or, take, Result, Ok, Err, IfErr, ap, sym, subst, ◌∙◌}
use Rattle.std.specs.Prelude.{IsErrAnd}
use Rattle.std.specs.List.{filter, list_any, Contains}
use Rattle.std.proofs.lemmas.List.{take_more}
use Rattle.std.proofs.lemmas.List.Elements.{filter-append, Contains-get_or}
use Rattle.std.proofs.lemmas.List.Folds.{list_any_at, list_any_more}

-- a fault that is handed on
pub handed : {T E : Type 0} (P : E → Type 0) (r : Result T E) (e : E) → IsErrAnd r (λ given. given ≡ e) → P e → IfErr r P
handed P (Ok x) e never there = tt
handed P (Err given) e is there = subst P (sym is) there

-- one more of those that pass, where it does
pub filter_step : {X : Type 0} (p : X → Bool) (xs : List X) (i : ℕ) (x : X) → i < length xs → x ≡ get_or xs i x
    → filter p (take (i + 1) xs) ≡ filter p (take i xs) ++ filter p (x ∷ [])
filter_step p xs i x inside is =
    ap (λ l. filter p l) (take_more xs i x inside ∙ ap (λ y. take i xs ++ y ∷ []) (sym is)) ∙ filter-append p (take i xs) (x ∷ [])

-- no one more passes
pub none_step : {X : Type 0} (p : X → Bool) (xs : List X) (i : ℕ) (x : X) → i < length xs → x ≡ get_or xs i x
    → list_any p (take i xs) ≡ false → p x ≡ false → list_any p (take (i + 1) xs) ≡ false
none_step p xs i x inside is none here =
    list_any_more p xs i x inside ∙ ap (λ (b : Bool). b || p (get_or xs i x)) none ∙ ap p (sym is) ∙ here

pub some_step : {X : Type 0} (p : X → Bool) (xs : List X) (i : ℕ) (x : X) → i < length xs → x ≡ get_or xs i x → p x ≡ true → list_any p xs ≡ true
some_step p xs i x inside is here = list_any_at p xs i x inside (ap p (sym is) ∙ here)

pub there_at : {X : Type 0} (xs : List X) (i : ℕ) (x : X) → i < length xs → x ≡ get_or xs i x → Contains xs x
there_at xs i x inside is = subst (λ y. Contains xs y) (sym is) (Contains-get_or xs i x inside)
