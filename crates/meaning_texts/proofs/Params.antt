-- The computed parameters are those that an expression keeps, and no others are.
use Rattle.std.proofs.Common.{◌≡◌, ℕ, suc, zero, ◌<◌, Bool, true, false, not, ◌&&◌, List, [], ◌∷◌, length, get_or, refl, sym, ap, ap₂, ◌∙◌, inl, inr, arith, ◌⊎◌, Ordering, Less, Equal, Greater, is_lt, add-one}
use Rattle.std.specs.Prelude.{filter, bytes_eq}
use Rattle.std.specs.List.Sorted.{IsSortedBy}
use Rattle.std.specs.Ordering.{ordering_reverse}
use Rattle.std.specs.FinMap.{slice_cmp-IsAntisymmetric, nat_cmp-IsAntisymmetric}
use Rattle.std.proofs.lemmas.Cmp.{nat_list_cmp_total, tied_itself}
use Rattle.std.proofs.lemmas.Bool.{cases_Bool, both_ways}
use Rattle.std.proofs.lemmas.Slice.Eq.{bytes_eq-Decides}
use Rattle.std.proofs.lemmas.List.Sorted.{sorted_far, ranks_by}
use Rattle.object_values.specs.declared.nodes.ParamValue.{ParamValue}
use Rattle.meaning_texts.specs.Lists.{once}
use Rattle.meaning_texts.specs.Expressions.{name_cmp, values_of_param, AreKeptAs}
use Rattle.meaning_texts.specs.Reading.{same_param, sorted, put_sorted, kept_params}

abbrev pub before : ParamValue → ParamValue → Bool
before x y = is_lt (name_cmp x.param y.param)

-- ---- names

same_name : (x y : List ℕ) → bytes_eq x y ≡ true → x ≡ y
same_name x y e = (bytes_eq-Decides x y).0 e

equal_names : (x y : List ℕ) → name_cmp x y ≡ Equal → x ≡ y
equal_names x y e = slice_cmp-IsAntisymmetric nat_cmp-IsAntisymmetric x y e

names_tie : (x : List ℕ) → name_cmp x x ≡ Equal
names_tie x = tied_itself nat_list_cmp_total x

-- a name that is less is another name
less_is_other : (x y : List ℕ) → is_lt (name_cmp x y) ≡ true → bytes_eq x y ≡ false
less_is_other x y less = elim (cases_Bool (bytes_eq x y)) [
  | inl e ↦ let s : x ≡ y = same_name x y e in let t : is_lt (name_cmp x x) ≡ true = rw (← s) at less in let f : is_lt (name_cmp x x) ≡ false = rw (names_tie x) refl in absurd (both_ways _ f t)
  | inr e ↦ e
]

other_back : (x y : List ℕ) → bytes_eq x y ≡ false → bytes_eq y x ≡ false
other_back x y e = elim (cases_Bool (bytes_eq y x)) [
  | inl t ↦ let s : y ≡ x = same_name y x t in absurd (both_ways (bytes_eq x y) e ((bytes_eq-Decides x y).1 (sym s)))
  | inr f ↦ f
]

is_lt_back : (r : Ordering) → is_lt r ≡ true → is_lt (ordering_reverse r) ≡ false
is_lt_back Less e = refl
is_lt_back Equal e = refl
is_lt_back Greater e = absurd (both_ways false refl e)

less_not_back : (x y : List ℕ) → is_lt (name_cmp x y) ≡ true → is_lt (name_cmp y x) ≡ false
less_not_back x y less = rw (nat_list_cmp_total.antisymm y x) (is_lt_back (name_cmp x y) less)

-- ---- sorted lists

sorted_head : (x : ParamValue) (xs : List ParamValue) → IsSortedBy before (x ∷ xs) → (j : ℕ) (d : ParamValue) → j < length xs → before (get_or xs j d) x ≡ false
sorted_head x xs up j d low = sorted_far before (ranks_by nat_list_cmp_total (λ (p : ParamValue). p.param)) (x ∷ xs) up 0 (suc j) d (omega arith) (omega arith)

sorted_tail : (x : ParamValue) (xs : List ParamValue) → IsSortedBy before (x ∷ xs) → IsSortedBy before xs
sorted_tail x xs up k d low high = rw (add-one k) (rw (add-one (suc k)) at (up (suc k) d (omega arith) (omega arith)))

sorted_cons : (x : ParamValue) (xs : List ParamValue) → ((d : ParamValue) → 0 < length xs → before (get_or xs 0 d) x ≡ false) → IsSortedBy before xs → IsSortedBy before (x ∷ xs)
sorted_cons x xs first up zero d low high = first d (omega arith)
sorted_cons x xs first up (suc k) d low high = rw (add-one (suc k)) (rw (add-one k) at (up k d (omega arith) (omega arith)))

-- ---- the sorting

-- what stands first after a parameter was put in
first_put : (p : ParamValue) (qs : List ParamValue) (d : ParamValue) → (get_or (put_sorted p qs) 0 d ≡ p) ⊎ ((0 < length qs) × (get_or (put_sorted p qs) 0 d ≡ get_or qs 0 d))
first_put p [] d = inl refl
first_put p (q ∷ qs) d = elim (cases_Bool (before q p)) [
  | inl e ↦ rw e (inr (omega arith, refl))
  | inr e ↦ rw e (inl refl)
]

put_sorted_up : (p : ParamValue) (qs : List ParamValue) → IsSortedBy before qs → IsSortedBy before (put_sorted p qs)
put_sorted_up p [] up = λ k d low high. absurd (omega arith)
put_sorted_up p (q ∷ qs) up = elim (cases_Bool (before q p)) [
  | inl e ↦ rw e (sorted_cons q (put_sorted p qs) (λ d some. elim (first_put p qs d) [
    | inl f ↦ rw f (less_not_back q.param p.param e)
    | inr f ↦ rw f.1 (sorted_head q qs up 0 d f.0)
  ]) (put_sorted_up p qs (sorted_tail q qs up)))
  | inr e ↦ rw e (sorted_cons p (q ∷ qs) (λ d some. e) up)
]

sorted_up : (ps : List ParamValue) → IsSortedBy before (sorted ps)
sorted_up [] = λ k d low high. absurd (omega arith)
sorted_up (p ∷ ps) = put_sorted_up p (sorted ps) (sorted_up ps)

-- ---- the values of a name

values_put : (name : List ℕ) (p : ParamValue) (qs : List ParamValue) → values_of_param name (put_sorted p qs) ≡ values_of_param name (p ∷ qs)
values_put name p [] = refl
values_put name p (q ∷ qs) = elim (cases_Bool (before q p)) [
  | inl e ↦ rw e (elim (cases_Bool (bytes_eq q.param name)) [
    | inl n ↦ let other : bytes_eq p.param name ≡ false = rw (← same_name q.param name n) (other_back q.param p.param (less_is_other q.param p.param e)) in
        let inner : values_of_param name (put_sorted p qs) ≡ values_of_param name qs = values_put name p qs ∙ (rw other refl) in
        rw (n, other) (ap (λ t. q.value ∷ t) inner)
    | inr n ↦ rw n (values_put name p qs)
  ])
  | inr e ↦ rw e refl
]

-- ---- doubles

abbrev is_same : ParamValue → ParamValue → Bool
is_same p q = bytes_eq q.param p.param && bytes_eq q.value p.value

abbrev others : ParamValue → List ParamValue → List ParamValue
others p qs = filter (λ q. not (is_same p q)) qs

abbrev other_values : List ℕ → List (List ℕ) → List (List ℕ)
other_values v vs = filter (λ y. not (bytes_eq y v)) vs

names_same : (x : List ℕ) → bytes_eq x x ≡ true
names_same x = (bytes_eq-Decides x x).1 refl

values_others : (p : ParamValue) (qs : List ParamValue) → values_of_param p.param (others p qs) ≡ other_values p.value (values_of_param p.param qs)
values_others p [] = refl
values_others p (q ∷ qs) = elim (cases_Bool (bytes_eq q.param p.param)) [
  | inl n ↦ elim (cases_Bool (bytes_eq q.value p.value)) [
    | inl v ↦ rw (n, v) (values_others p qs)
    | inr v ↦ rw (n, v, n) (ap (λ t. q.value ∷ t) (values_others p qs))
  ]
  | inr n ↦ rw (n, n) (values_others p qs)
]

values_of_others : (name : List ℕ) (p : ParamValue) (qs : List ParamValue) → bytes_eq p.param name ≡ false → values_of_param name (others p qs) ≡ values_of_param name qs
values_of_others name p [] other = refl
values_of_others name p (q ∷ qs) other = elim (cases_Bool (bytes_eq q.param p.param)) [
  | inl n ↦ let s : bytes_eq q.param name ≡ false = rw (same_name q.param p.param n) other in
      elim (cases_Bool (bytes_eq q.value p.value)) [
        | inl v ↦ rw (n, v, s) (values_of_others name p qs other)
        | inr v ↦ rw (n, v, s) (values_of_others name p qs other)
      ]
  | inr n ↦ elim (cases_Bool (bytes_eq q.param name)) [
    | inl s ↦ rw (n, s) (ap (λ t. q.value ∷ t) (values_of_others name p qs other))
    | inr s ↦ rw (n, s) (values_of_others name p qs other)
  ]
]

values_single : (name : List ℕ) (ps : List ParamValue) → values_of_param name (once same_param ps) ≡ once bytes_eq (values_of_param name ps)
values_single name [] = refl
values_single name (p ∷ ps) = elim (cases_Bool (bytes_eq p.param name)) [
  | inl n ↦ let s : p.param ≡ name = same_name p.param name n in
      let inner : values_of_param name (others p (once same_param ps)) ≡ other_values p.value (once bytes_eq (values_of_param name ps)) = rw (← s) (values_others p (once same_param ps) ∙ ap (other_values p.value) (values_single p.param ps)) in
      rw n (ap (λ t. p.value ∷ t) inner)
  | inr n ↦ rw n (values_of_others name p (once same_param ps) n ∙ values_single name ps)
]

-- one parameter more before lists with the same values
values_more : (name : List ℕ) (p : ParamValue) (xs ys : List ParamValue) → values_of_param name xs ≡ values_of_param name ys → values_of_param name (p ∷ xs) ≡ values_of_param name (p ∷ ys)
values_more name p xs ys e = elim (cases_Bool (bytes_eq p.param name)) [
  | inl n ↦ rw n (ap (λ t. p.value ∷ t) e)
  | inr n ↦ rw n e
]

values_sorted : (name : List ℕ) (ps : List ParamValue) → values_of_param name (sorted ps) ≡ values_of_param name ps
values_sorted name [] = refl
values_sorted name (p ∷ ps) = values_put name p (sorted ps) ∙ values_more name p (sorted ps) ps (values_sorted name ps)

-- the computed parameters are those that an expression keeps
pub kept_are_kept : (written : List ParamValue) → AreKeptAs written (kept_params written)
unfolding kept_params
kept_are_kept written = record { sorted = sorted_up (once same_param written); values = λ name. values_sorted name (once same_param written) ∙ values_single name written }

-- ---- one list alone

-- no value of a name that no parameter has
values_none : (name : List ℕ) (qs : List ParamValue) → ((j : ℕ) (d : ParamValue) → j < length qs → bytes_eq (get_or qs j d).param name ≡ false) → values_of_param name qs ≡ []
values_none name [] none = refl
values_none name (q ∷ qs) none = rw (none 0 q (omega arith)) (values_none name qs (λ j d low. none (suc j) d (omega arith)))

-- where the first name of a list is less than that of another, the other has no value of it
values_below : (x y : ParamValue) (ys : List ParamValue) → IsSortedBy before (y ∷ ys) → before x y ≡ true → values_of_param x.param (y ∷ ys) ≡ []
values_below x y ys up less = values_none x.param (y ∷ ys) (λ j d low. go j d low)
  where
    go : (j : ℕ) (d : ParamValue) → j < length (y ∷ ys) → bytes_eq (get_or (y ∷ ys) j d).param x.param ≡ false
    go zero d low = other_back x.param y.param (less_is_other x.param y.param less)
    go (suc j) d low = elim (cases_Bool (bytes_eq (get_or ys j d).param x.param)) [
      | inl e ↦ let s : (get_or ys j d).param ≡ x.param = same_name _ _ e in let t : is_lt (name_cmp (get_or ys j d).param y.param) ≡ true = rw s less in absurd (both_ways _ (sorted_head y ys up j d (omega arith)) t)
      | inr e ↦ e
    ]

values_first : (x : ParamValue) (xs : List ParamValue) → values_of_param x.param (x ∷ xs) ≡ x.value ∷ values_of_param x.param xs
values_first x xs = rw (names_same x.param) refl

-- the name of the first parameter has a value
first_has_value : (x : ParamValue) (xs : List ParamValue) → values_of_param x.param (x ∷ xs) ≡ [] → ⊥
first_has_value x xs e = let f : x.value ∷ values_of_param x.param xs ≡ [] = sym (values_first x xs) ∙ e in cc

-- what stands after two first parameters of one name, where the values of each name agree
values_behind : (x y : ParamValue) (xs ys : List ParamValue) → x.param ≡ y.param → ((name : List ℕ) → values_of_param name (x ∷ xs) ≡ values_of_param name (y ∷ ys)) → (x.value ≡ y.value) × ((name : List ℕ) → values_of_param name xs ≡ values_of_param name ys)
values_behind x y xs ys n same =
    let g : bytes_eq y.param x.param ≡ true = rw n (names_same y.param) in
    let first : values_of_param x.param (y ∷ ys) ≡ y.value ∷ values_of_param x.param ys = rw g refl in
    let whole : x.value ∷ values_of_param x.param xs ≡ y.value ∷ values_of_param x.param ys = sym (values_first x xs) ∙ same x.param ∙ first in
    let of : x.value ≡ y.value = cc in
    let tails : values_of_param x.param xs ≡ values_of_param x.param ys = cc in (
      of,
      λ name. elim (cases_Bool (bytes_eq x.param name)) [
        | inl e ↦ rw (← same_name x.param name e) tails
        | inr e ↦ let f : bytes_eq y.param name ≡ false = rw (← n) e in
            let a : values_of_param name (x ∷ xs) ≡ values_of_param name xs = rw e refl in
            let b : values_of_param name (y ∷ ys) ≡ values_of_param name ys = rw f refl in
            sym a ∙ same name ∙ b
      ],
    )

equal_params : (x y : ParamValue) → x.param ≡ y.param → x.value ≡ y.value → x ≡ y
equal_params x y n v = let e : ◌≡◌ {A = ParamValue} (record { param = x.param; value = x.value }) (record { param = y.param; value = y.value }) = cc in e

-- two sorted lists with the same values for each name have one first parameter
first_of_both : (x y : ParamValue) (xs ys : List ParamValue) → IsSortedBy before (x ∷ xs) → IsSortedBy before (y ∷ ys) → ((name : List ℕ) → values_of_param name (x ∷ xs) ≡ values_of_param name (y ∷ ys)) → (r : Ordering) → name_cmp x.param y.param ≡ r → x.param ≡ y.param
first_of_both x y xs ys up down same Less e = absurd (first_has_value x xs (same x.param ∙ values_below x y ys down (rw e refl)))
first_of_both x y xs ys up down same Equal e = equal_names x.param y.param e
first_of_both x y xs ys up down same Greater e =
    let back : is_lt (name_cmp y.param x.param) ≡ true = rw (nat_list_cmp_total.antisymm y.param x.param, e) refl in
    absurd (first_has_value y ys (sym (same y.param) ∙ values_below y x xs up back))

one_list : (xs ys : List ParamValue) → IsSortedBy before xs → IsSortedBy before ys → ((name : List ℕ) → values_of_param name xs ≡ values_of_param name ys) → xs ≡ ys
one_list [] [] up down same = refl
one_list [] (y ∷ ys) up down same = absurd (first_has_value y ys (sym (same y.param)))
one_list (x ∷ xs) [] up down same = absurd (first_has_value x xs (same x.param))
one_list (x ∷ xs) (y ∷ ys) up down same =
    let n : x.param ≡ y.param = first_of_both x y xs ys up down same (name_cmp x.param y.param) refl in
    let b = values_behind x y xs ys n same in
    let rest : xs ≡ ys = one_list xs ys (sorted_tail x xs up) (sorted_tail y ys down) b.1 in
    ap₂ (λ (p : ParamValue) ps. p ∷ ps) (equal_params x y n b.0) rest

-- an expression keeps no other parameters
pub one_kept : (written kept : List ParamValue) → AreKeptAs written kept → kept ≡ kept_params written
one_kept written kept k =
    let c : AreKeptAs written (kept_params written) = kept_are_kept written in
    one_list kept (kept_params written) k.sorted c.sorted (λ name. k.values name ∙ sym (c.values name))
