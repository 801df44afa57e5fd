-- Lemmas on what stands in a list, on tests, and on options.
use Rattle.std.proofs.Common.{◌≡◌, ◌≢◌, ℕ, zero, suc, ◌+◌, ◌<◌, Bool, true, false, List, [], ◌∷◌, ◌++◌, ◌⊎◌, inl, inr, sym, ap, ◌∙◌, subst, refl, ◌&&◌, cond, arith, length, take, get_or, slice_get, filter_map, filter, flat_map, map, All}
use Rattle.std.proofs.lemmas.Bool.{or_cases, or_left, or_right, and_parts, and_from, cond-true}
use Rattle.std.specs.Prelude.{Option, Some, None, is_some}
use Rattle.std.specs.List.{list_any, list_all, cons_option}
use Rattle.meaning_texts.specs.Lists.{IsIn, HasNo, numbered}

-- ---- tests and options

pub never_both : {P : Type 0} (b : Bool) → b ≡ true → b ≡ false → P
never_both true h k = cc
never_both false h k = cc

pub some_or_none : {A : Type 0} (o : Option A) → ((x : A) × (o ≡ Some x)) ⊎ (o ≡ None)
some_or_none None = inr refl
some_or_none (Some x) = inl (x, refl)

pub value_of_some : {A : Type 0} (o : Option A) → is_some o ≡ true → (x : A) × (o ≡ Some x)
value_of_some None h = cc
value_of_some (Some x) h = (x, refl)

pub some_is_none : {A P : Type 0} (o : Option A) (x : A) → o ≡ Some x → o ≡ None → P
some_is_none None x h k = cc
some_is_none (Some y) x h k = cc

pub same_some : {A : Type 0} {x y : A} → Some x ≡ Some y → x ≡ y
same_some e = cc

-- ---- lists

pub in_left : {A : Type 0} (x : A) (xs ys : List A) → IsIn x xs → IsIn x (xs ++ ys)
in_left x [] ys h = absurd h
in_left x (y ∷ xs) ys (inl e) = inl e
in_left x (y ∷ xs) ys (inr h) = inr (in_left x xs ys h)

pub in_right : {A : Type 0} (x : A) (xs ys : List A) → IsIn x ys → IsIn x (xs ++ ys)
in_right x [] ys h = h
in_right x (y ∷ xs) ys h = inr (in_right x xs ys h)

pub in_either : {A : Type 0} (x : A) (xs ys : List A) → IsIn x (xs ++ ys) → IsIn x xs ⊎ IsIn x ys
in_either x [] ys h = inr h
in_either x (y ∷ xs) ys (inl e) = inl (inl e)
in_either x (y ∷ xs) ys (inr h) = elim (in_either x xs ys h) [ inl k ↦ inl (inr k) | inr k ↦ inr k ]

pub in_map : {A B : Type 0} (f : A → B) (x : A) (xs : List A) → IsIn x xs → IsIn (f x) (map f xs)
in_map f x [] h = absurd h
in_map f x (y ∷ xs) (inl e) = inl (ap f e)
in_map f x (y ∷ xs) (inr h) = inr (in_map f x xs h)

pub from_map : {A B : Type 0} (f : A → B) (z : B) (xs : List A) → IsIn z (map f xs) → (x : A) × IsIn x xs × (z ≡ f x)
from_map f z [] h = absurd h
from_map f z (y ∷ xs) (inl e) = (y, inl refl, e)
from_map f z (y ∷ xs) (inr h) = let r = from_map f z xs h in (r.0, inr r.1, r.2)

pub in_flat : {A B : Type 0} (f : A → List B) (x : A) (y : B) (xs : List A) → IsIn x xs → IsIn y (f x) → IsIn y (flat_map f xs)
in_flat f x y [] h k = absurd h
in_flat f x y (z ∷ xs) (inl e) k = in_left y (f z) (flat_map f xs) (subst (λ a. IsIn y (f a)) e k)
in_flat f x y (z ∷ xs) (inr h) k = in_right y (f z) (flat_map f xs) (in_flat f x y xs h k)

pub from_flat : {A B : Type 0} (f : A → List B) (y : B) (xs : List A) → IsIn y (flat_map f xs) → (x : A) × IsIn x xs × IsIn y (f x)
from_flat f y [] h = absurd h
from_flat f y (z ∷ xs) h = elim (in_either y (f z) (flat_map f xs) h) [ inl k ↦ (z, inl refl, k) | inr k ↦ let r = from_flat f y xs k in (r.0, inr r.1, r.2) ]

pub in_filter : {A : Type 0} (p : A → Bool) (x : A) (xs : List A) → IsIn x xs → p x ≡ true → IsIn x (filter p xs)
in_filter p x [] h k = absurd h
in_filter p x (y ∷ xs) (inl e) k = subst (λ l. IsIn x l) (sym (cond-true (p y) (y ∷ filter p xs) (filter p xs) (ap p (sym e) ∙ k))) (inl e)
in_filter p x (y ∷ xs) (inr h) k = elim (p y) as (λ b. IsIn x (cond b (y ∷ filter p xs) (filter p xs))) [ true ↦ inr (in_filter p x xs h k) | false ↦ in_filter p x xs h k ]

pub from_filter : {A : Type 0} (p : A → Bool) (x : A) (xs : List A) → IsIn x (filter p xs) → IsIn x xs × (p x ≡ true)
from_filter p x [] h = absurd h
from_filter p x (y ∷ xs) h = (elim (p y) as (λ b. p y ≡ b → IsIn x (cond b (y ∷ filter p xs) (filter p xs)) → IsIn x (y ∷ xs) × (p x ≡ true)) [
  | true ↦ λ e k. elim k [ inl q ↦ (inl q, ap p q ∙ e) | inr m ↦ let r = from_filter p x xs m in (inr r.0, r.1) ]
  | false ↦ λ e k. let r = from_filter p x xs k in (inr r.0, r.1)
]) refl h

behind_chosen : {B : Type 0} (y : B) (o : Option B) (ys : List B) → IsIn y ys → IsIn y (cons_option o ys)
behind_chosen y None ys h = h
behind_chosen y (Some w) ys h = inr h

pub in_chosen : {A B : Type 0} (f : A → Option B) (x : A) (y : B) (xs : List A) → IsIn x xs → f x ≡ Some y → IsIn y (filter_map f xs)
in_chosen f x y [] h e = absurd h
in_chosen f x y (z ∷ xs) (inl q) e = subst (λ o. IsIn y (cons_option o (filter_map f xs))) (sym (ap f (sym q) ∙ e)) (inl refl)
in_chosen f x y (z ∷ xs) (inr h) e = behind_chosen y (f z) (filter_map f xs) (in_chosen f x y xs h e)

pub from_chosen : {A B : Type 0} (f : A → Option B) (y : B) (xs : List A) → IsIn y (filter_map f xs) → (x : A) × IsIn x xs × (f x ≡ Some y)
from_chosen f y [] h = absurd h
from_chosen {A} {B} f y (z ∷ xs) h = (elim (f z) as (λ o. f z ≡ o → IsIn y (cons_option o (filter_map f xs)) → (x : A) × IsIn x (z ∷ xs) × (f x ≡ Some y)) [
  | None ↦ λ e k. let r = from_chosen f y xs k in (r.0, inr r.1, r.2)
  | Some w ↦ λ e k. elim k [ inl q ↦ (z, inl refl, e ∙ ap Some (sym q)) | inr m ↦ let r = from_chosen f y xs m in (r.0, inr r.1, r.2) ]
]) refl h

-- one passes the test exactly where the test on the list does
pub one_passes : {A : Type 0} (p : A → Bool) (xs : List A) → list_any p xs ≡ true → (x : A) × IsIn x xs × (p x ≡ true)
one_passes p [] h = cc
one_passes p (y ∷ xs) h = elim (or_cases (p y) (list_any p xs) h) [ inl e ↦ (y, inl refl, e) | inr k ↦ let r = one_passes p xs k in (r.0, inr r.1, r.2) ]

pub passes_one : {A : Type 0} (p : A → Bool) (x : A) (xs : List A) → IsIn x xs → p x ≡ true → list_any p xs ≡ true
passes_one p x [] h e = absurd h
passes_one p x (y ∷ xs) (inl q) e = or_left (p y) (list_any p xs) (ap p (sym q) ∙ e)
passes_one p x (y ∷ xs) (inr h) e = or_right (p y) (list_any p xs) (passes_one p x xs h e)

-- a list that holds x is what stands before x, x, and what stands after it
pub split_at : {A : Type 0} (x : A) (xs : List A) → IsIn x xs → (front back : List A) × (xs ≡ front ++ x ∷ back)
split_at x [] h = absurd h
split_at x (y ∷ xs) (inl e) = ([], xs, λ i. sym e i ∷ xs)
split_at x (y ∷ xs) (inr h) = let r = split_at x xs h in (y ∷ r.0, r.1, ap (λ l. y ∷ l) r.2)

pub in_without : {A : Type 0} (x a : A) (front back : List A) → IsIn x (front ++ a ∷ back) → (x ≡ a) ⊎ IsIn x (front ++ back)
in_without x a [] back (inl e) = inl e
in_without x a [] back (inr h) = inr h
in_without x a (y ∷ front) back (inl e) = inr (inl e)
in_without x a (y ∷ front) back (inr h) = elim (in_without x a front back h) [ inl e ↦ inl e | inr k ↦ inr (inr k) ]

-- what holds of all that stand in a list, in std's word and in this one
pub in_all : {A : Type 0} (P : A → Type 0) (xs : List A) → All P xs → (x : A) → IsIn x xs → P x
in_all P [] all x h = absurd h
in_all P (y ∷ xs) all x (inl e) = subst P (sym e) (all 0 y (omega arith))
in_all P (y ∷ xs) all x (inr h) = in_all P xs (λ k d l. all (suc k) d (omega (arith, l))) x h

pub all_in : {A : Type 0} (P : A → Type 0) (xs : List A) → ((x : A) → IsIn x xs → P x) → All P xs
all_in P [] each k d h = absurd (omega (arith, h))
all_in P (y ∷ xs) each zero d h = each y (inl refl)
all_in P (y ∷ xs) each (suc k) d h = all_in P xs (λ x i. each x (inr i)) k d (omega (arith, h))

pub in_all_pass : {A : Type 0} (p : A → Bool) (xs : List A) → list_all p xs ≡ true → (x : A) → IsIn x xs → p x ≡ true
in_all_pass p [] h x i = absurd i
in_all_pass p (y ∷ xs) h x (inl e) = ap p e ∙ (and_parts (p y) (list_all p xs) h).0
in_all_pass p (y ∷ xs) h x (inr i) = in_all_pass p xs (and_parts (p y) (list_all p xs) h).1 x i

pub all_pass_in : {A : Type 0} (p : A → Bool) (xs : List A) → ((x : A) → IsIn x xs → p x ≡ true) → list_all p xs ≡ true
all_pass_in p [] each = refl
all_pass_in p (y ∷ xs) each = and_from (p y) (list_all p xs) (each y (inl refl)) (all_pass_in p xs (λ x i. each x (inr i)))

-- one fails where not all pass
pub one_fails : {A : Type 0} (p : A → Bool) (xs : List A) → list_all p xs ≡ false → (x : A) × IsIn x xs × (p x ≡ false)
one_fails p [] h = cc
one_fails p (y ∷ xs) h = (elim (p y) as (λ b. p y ≡ b → (b && list_all p xs) ≡ false → (x : _) × IsIn x (y ∷ xs) × (p x ≡ false)) [
  | true ↦ λ e k. let r = one_fails p xs k in (r.0, inr r.1, r.2)
  | false ↦ λ e k. (y, inl refl, e)
]) refl h

-- ---- numbered lists

pub numbered_in : {A : Type 0} (j : ℕ) (xs : List A) (i : ℕ) (x : A) → slice_get xs i ≡ Some x → IsIn (i + j, x) (numbered j xs)
numbered_in j [] i x e = cc
numbered_in j (y ∷ xs) zero x e = inl (λ i. (zero_on i, sym (same_some e) i))
  where
    zero_on : zero + j ≡ j
    zero_on = omega arith
numbered_in j (y ∷ xs) (suc i) x e = inr (subst (λ k. IsIn (k, x) (numbered (suc j) xs)) one_more (numbered_in (suc j) xs i x e))
  where
    one_more : i + suc j ≡ suc i + j
    one_more = omega arith

pub in_numbered : {A : Type 0} (j : ℕ) (xs : List A) (k : ℕ) (x : A) → IsIn (k, x) (numbered j xs) → (i : ℕ) × (k ≡ i + j) × (slice_get xs i ≡ Some x)
in_numbered j [] k x h = absurd h
in_numbered {A} j (y ∷ xs) k x (inl e) = (0, ap (λ (z : ℕ × A). z.0) e ∙ zero_on, ap Some (sym (ap (λ (z : ℕ × A). z.1) e)))
  where
    zero_on : j ≡ 0 + j
    zero_on = omega arith
in_numbered j (y ∷ xs) k x (inr h) = let r = in_numbered (suc j) xs k x h in (suc r.0, r.1 ∙ one_more r.0, r.2)
  where
    one_more : (i : ℕ) → i + suc j ≡ suc i + j
    one_more i = omega arith

-- ---- a number that stands nowhere

pub HasNo-append : (d : ℕ) (xs ys : List ℕ) → HasNo d xs → HasNo d ys → HasNo d (xs ++ ys)
HasNo-append d [] ys h k = k
HasNo-append d (x ∷ xs) ys h k = (h.0, HasNo-append d xs ys h.1 k)

pub HasNo-more : (d : ℕ) (xs : List ℕ) (b : ℕ) → HasNo d xs → b ≢ d → HasNo d (xs ++ b ∷ [])
HasNo-more d xs b h ne = HasNo-append d xs (b ∷ []) h (ne, tt)

-- it stands in a list that holds it
pub HasNo-split : (d : ℕ) (xs ys : List ℕ) → HasNo d (xs ++ d ∷ ys) → ⊥
HasNo-split d [] ys h = h.0 refl
HasNo-split d (x ∷ xs) ys h = HasNo-split d xs ys h.1

-- no place has it
pub HasNo-places : (d : ℕ) (xs : List ℕ) → ((k : ℕ) → k < length xs → get_or xs k 0 ≢ d) → HasNo d xs
HasNo-places d [] h = tt
HasNo-places d (x ∷ xs) h = (h 0 (omega arith), HasNo-places d xs (λ k lt. h (suc k) (omega arith)))

-- no place below this one has it
pub HasNo-take : (d : ℕ) (xs : List ℕ) (i : ℕ) → ((k : ℕ) → k < i → k < length xs → get_or xs k 0 ≢ d) → HasNo d (take i xs)
HasNo-take d xs zero h = tt
HasNo-take d [] (suc i) h = tt
HasNo-take d (x ∷ xs) (suc i) h = (h 0 (omega arith) (omega arith), HasNo-take d xs i (λ k lt inside. h (suc k) (omega arith) (omega arith)))

-- a test that fails at the number, and that all pass
pub HasNo-pass : (p : ℕ → Bool) (d : ℕ) → p d ≡ false → (xs : List ℕ) → list_all p xs ≡ true → HasNo d xs
HasNo-pass p d fails [] h = tt
HasNo-pass p d fails (x ∷ xs) h = let k = and_parts (p x) (list_all p xs) h in ((λ e. never_both (p x) k.0 (ap p e ∙ fails)), HasNo-pass p d fails xs k.1)

-- two cuts at the first such number are one
pub same_cut : (d : ℕ) (xs ys vs ws : List ℕ) → HasNo d xs → HasNo d ys → xs ++ d ∷ vs ≡ ys ++ d ∷ ws → (xs ≡ ys) × (vs ≡ ws)
same_cut d [] [] vs ws nx ny e = (refl, cc)
same_cut d [] (y ∷ ys) vs ws nx ny e = let z : y ≡ d = cc in absurd (ny.0 z)
same_cut d (x ∷ xs) [] vs ws nx ny e = let z : x ≡ d = cc in absurd (nx.0 z)
same_cut d (x ∷ xs) (y ∷ ys) vs ws nx ny e =
    let heads : x ≡ y = cc in
    let rest : xs ++ d ∷ vs ≡ ys ++ d ∷ ws = cc in
    let r = same_cut d xs ys vs ws nx.1 ny.1 rest in
    ((λ i. heads i ∷ r.0 i), r.1)
