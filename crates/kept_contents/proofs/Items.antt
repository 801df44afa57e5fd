-- Items of lists by their places.
use Rattle.std.proofs.Common.{◌≡◌, ◌<◌, ◌+◌, ℕ, zero, suc, List, [], ◌∷◌, ◌++◌, ◌⊎◌, inl, inr, length, map, ap, sym, subst, refl, arith}
use Rattle.std.proofs.Math.ListN.{set}
use Rattle.std.specs.Prelude.{Some, slice_get}
use Rattle.std.proofs.lemmas.Option.{none-some, same_Some}
use Rattle.meaning_texts.specs.Lists.{IsIn}

module _ {A : Type 0} where
  pub kept : (xs later : List A) (x : A) (i : ℕ) → slice_get xs i ≡ Some x → slice_get (xs ++ later) i ≡ Some x
  kept [] later x i h = absurd (none-some x h)
  kept (y ∷ xs) later x zero h = h
  kept (y ∷ xs) later x (suc i) h = kept xs later x i h

  pub last_or_before : (xs : List A) (x y : A) (i : ℕ) → slice_get (xs ++ x ∷ []) i ≡ Some y → (slice_get xs i ≡ Some y) ⊎ ((i ≡ length xs) × (y ≡ x))
  last_or_before [] x y zero h = inr (refl, sym (same_Some x y h))
  last_or_before [] x y (suc i) h = absurd (none-some y h)
  last_or_before (z ∷ xs) x y zero h = inl h
  last_or_before (z ∷ xs) x y (suc i) h = elim (last_or_before xs x y i h) [ inl before ↦ inl before | inr last ↦ inr (ap suc last.0, last.1) ]

  -- after the others
  pub behind : (xs ys : List A) (y : A) (i : ℕ) → slice_get ys i ≡ Some y → slice_get (xs ++ ys) (length xs + i) ≡ Some y
  behind [] ys y i h = let e : i ≡ 0 + i = omega arith in subst (λ (k : ℕ). slice_get ys k ≡ Some y) e h
  behind (x ∷ xs) ys y i h = let e : suc (length xs + i) ≡ suc (length xs) + i = omega arith in subst (λ (k : ℕ). slice_get (x ∷ (xs ++ ys)) k ≡ Some y) e (behind xs ys y i h)

  pub first_item : (y : A) (ys : List A) → slice_get (y ∷ ys) 0 ≡ Some y
  first_item y ys = refl

  pub last_item : (xs : List A) (x : A) → slice_get (xs ++ x ∷ []) (length xs) ≡ Some x
  last_item [] x = refl
  last_item (y ∷ xs) x = last_item xs x

  -- an item that is replaced
  pub set_there : (xs : List A) (i : ℕ) (x : A) → i < length xs → slice_get (set xs i x) i ≡ Some x
  set_there [] i x h = absurd (omega (arith, h))
  set_there (y ∷ xs) zero x h = refl
  set_there (y ∷ xs) (suc i) x h = set_there xs i x (omega (arith, h))

  pub set_elsewhere : (xs : List A) (i j : ℕ) (x : A) → (i ≡ j → ⊥) → slice_get (set xs i x) j ≡ slice_get xs j
  set_elsewhere [] i j x apart = refl
  set_elsewhere (y ∷ xs) zero zero x apart = absurd (apart refl)
  set_elsewhere (y ∷ xs) zero (suc j) x apart = refl
  set_elsewhere (y ∷ xs) (suc i) zero x apart = refl
  set_elsewhere (y ∷ xs) (suc i) (suc j) x apart = set_elsewhere xs i j x (λ e. apart (ap suc e))

  pub has_place : (xs : List A) (x : A) (i : ℕ) → slice_get xs i ≡ Some x → i < length xs
  has_place [] x i h = absurd (none-some x h)
  has_place (y ∷ xs) x zero h = omega arith
  has_place (y ∷ xs) x (suc i) h = let b = has_place xs x i h in omega (arith, b)

pub in_list : {A : Type 0} (xs : List A) (x : A) (i : ℕ) → slice_get xs i ≡ Some x → IsIn x xs
in_list [] x i h = absurd (none-some x h)
in_list (y ∷ xs) x zero h = inl (sym (same_Some y x h))
in_list (y ∷ xs) x (suc i) h = inr (in_list xs x i h)

pub mapped : {A B : Type 0} (f : A → B) (xs : List A) (x : A) (i : ℕ) → slice_get xs i ≡ Some x → slice_get (map f xs) i ≡ Some (f x)
mapped f [] x i h = absurd (none-some x h)
mapped f (y ∷ xs) x zero h = ap (λ z. Some (f z)) (same_Some y x h)
mapped f (y ∷ xs) x (suc i) h = mapped f xs x i h
