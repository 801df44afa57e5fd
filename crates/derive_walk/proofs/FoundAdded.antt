-- A key that isn't there goes last.
use Rattle.std.proofs.Common.{◌≡◌, Bool, true, false, cond, List, [], ◌∷◌, ◌++◌, ap, sym, ◌∙◌, refl, true≢false}
use Rattle.std.specs.Prelude.{Some, None, Result, Ok, Err, IsOk, OnOk}
use Rattle.std.specs.Map.{lookup}
use Rattle.indexmap.specs.IndexMap.{insert_entry}

pub goes_last : {K V : Type 0} (eq : K → K → Bool) (entries : List (K × V)) (k : K) (v : V) → lookup (eq k) entries ≡ None → insert_entry eq entries k v ≡ entries ++ (k, v) ∷ []
goes_last eq [] k v e = refl
goes_last eq (x ∷ entries) k v e = by_test (eq k x.0) e (goes_last eq entries k v)
  where
    by_test : (b : Bool) → cond b (Some x.1) (lookup (eq k) entries) ≡ None → (lookup (eq k) entries ≡ None → insert_entry eq entries k v ≡ entries ++ (k, v) ∷ []) → cond b ((x.0, v) ∷ entries) (x ∷ insert_entry eq entries k v) ≡ x ∷ (entries ++ (k, v) ∷ [])
    by_test true e more = cc
    by_test false e more = ap (λ l. x ∷ l) (more e)

pub added : {K V : Type 0} (eq : K → K → Bool) (inside now after : List (K × V)) (k : K) (v : V) → now ≡ inside → after ≡ insert_entry eq inside k v → lookup (eq k) now ≡ None → after ≡ now ++ (k, v) ∷ []
added eq inside now after k v same is none = is ∙ ap (λ l. insert_entry eq l k v) (sym same) ∙ goes_last eq now k v none

-- what holds where it succeeded
pub where_ok : {T E : Type 0} (r : Result T E) (P : Type 0) → OnOk r P → IsOk r → P
where_ok (Ok x) P holds ok = holds
where_ok (Err e) P holds ok = absurd (true≢false (sym ok))
