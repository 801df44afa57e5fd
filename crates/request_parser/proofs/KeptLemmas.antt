-- A parameter put in its place among those that are kept.
use Rattle.std.proofs.Common.{◌≡◌, ℕ, suc, zero, ◌<◌, ◌≤◌, Bool, true, false, not, ◌||◌, List, [], ◌∷◌, ◌++◌, length, take, drop, get_or, position, cond, None, refl, sym, ap, subst, ◌∙◌, inl, inr, arith, add-one, append-nil, take-append-drop, Ordering, Less, Equal, Greater, is_lt}
use Rattle.std.specs.Prelude.{filter, bytes_eq, nat_lt}
use Rattle.std.specs.List.{list_any, position_or_len, insert}
use Rattle.std.specs.List.Sorted.{IsSortedBy}
use Rattle.std.specs.FinMap.{slice_cmp-IsAntisymmetric, nat_cmp-IsAntisymmetric}
use Rattle.std.proofs.lemmas.Cmp.{nat_list_cmp_total, tied_itself}
use Rattle.std.proofs.lemmas.Bool.{cases_Bool, both_ways, or_parts, ltb-false}
use Rattle.std.proofs.lemmas.Slice.Eq.{bytes_eq-Decides}
use Rattle.std.proofs.lemmas.List.Sums.{fails_before_first}
use Rattle.object_values.specs.declared.nodes.ParamValue.{ParamValue}
use Rattle.meaning_texts.specs.Lists.{once}
use Rattle.meaning_texts.specs.Expressions.{name_cmp, values_of_param, AreKeptAs}
use Rattle.meaning_texts.specs.Reading.{same_param}
use Rattle.request_parser.specs.Kept.{KeepsOne, is_below, BeginsAbove, IsPlaceOf}

-- ---- the place

pub place_found : (p : ParamValue) (qs : List ParamValue) (place : ℕ) → place ≤ length qs → ((k : ℕ) → k < place → is_below p (get_or qs k p) ≡ false) → (place < length qs → is_below p (get_or qs place p) ≡ true) → IsPlaceOf p qs place
place_found p [] zero le before at = record { within = omega arith; before = refl; there = tt }
place_found p [] (suc place) le before at = absurd (omega arith)
place_found p (q ∷ qs) zero le before at = record { within = omega arith; before = refl; there = at (omega arith) }
place_found p (q ∷ qs) (suc place) le before at =
    let w : IsPlaceOf p qs place = place_found p qs place (omega arith) (λ k lt. before (suc k) (omega arith)) (λ lt. at (omega arith)) in
    record { within = omega arith; before = rw (before 0 (omega arith)) w.before; there = w.there }

pub none_greater : (p : ParamValue) (qs : List ParamValue) → position (is_below p) qs ≡ None → (k : ℕ) → k < length qs → is_below p (get_or qs k p) ≡ false
none_greater p qs none k lt = elim (cases_Bool (nat_lt (position_or_len (is_below p) qs) (length qs))) [
  | inl e ↦ let f = rw e at none in let n : ⊥ = cc in absurd n
  | inr e ↦
      let past : length qs ≤ position_or_len (is_below p) qs = ltb-false _ _ e in
      fails_before_first (is_below p) qs k p (omega arith)
]

-- ---- names

same_text : (x y : List ℕ) → bytes_eq x y ≡ true → x ≡ y
same_text x y e = (bytes_eq-Decides x y).0 e

text_same : (x y : List ℕ) → x ≡ y → bytes_eq x y ≡ true
text_same x y e = (bytes_eq-Decides x y).1 e

is_less : (r : Ordering) → is_lt r ≡ true → r ≡ Less
is_less Less e = refl
is_less Equal e = absurd (both_ways false refl e)
is_less Greater e = absurd (both_ways false refl e)

-- of two names that aren't one the other way, the first is less, or they are equal
pub not_back : (p q : ParamValue) → is_below p q ≡ true → is_below q p ≡ false
not_back p q e = rw (nat_list_cmp_total.antisymm q.param p.param, is_less (name_cmp p.param q.param) e) refl

below_other : (p q : ParamValue) → is_below p q ≡ true → bytes_eq q.param p.param ≡ false
below_other p q e = elim (cases_Bool (bytes_eq q.param p.param)) [
  | inl t ↦
      let s : q.param ≡ p.param = same_text q.param p.param t in
      let l : name_cmp p.param q.param ≡ Less = is_less (name_cmp p.param q.param) e in
      let m : name_cmp p.param p.param ≡ Less = rw s at l in
      let n : name_cmp p.param p.param ≡ Equal = tied_itself nat_list_cmp_total p.param in
      let wrong : ⊥ = cc in absurd wrong
  | inr f ↦ f
]

-- below one that isn't above another is below that
below_on : (p y z : ParamValue) → is_below p y ≡ true → is_below z y ≡ false → is_below p z ≡ true
below_on p y z e f = by_order (name_cmp y.param z.param) refl
  where
    by_order : (r : Ordering) → name_cmp y.param z.param ≡ r → is_below p z ≡ true
    by_order Less o = rw (nat_list_cmp_total.trans p.param y.param z.param (is_less (name_cmp p.param y.param) e) o) refl
    by_order Equal o = let s : y.param ≡ z.param = slice_cmp-IsAntisymmetric nat_cmp-IsAntisymmetric y.param z.param o in rw (← s) e
    by_order Greater o = let t : is_below z y ≡ true = rw (nat_list_cmp_total.antisymm z.param y.param, o) refl in absurd (both_ways (is_below z y) f t)

-- ---- sorted lists, step by step

abbrev NoneBefore : ParamValue → List ParamValue → Type 0
NoneBefore x [] = Unit {0}
NoneBefore x (y ∷ ys) = is_below y x ≡ false

abbrev Up : List ParamValue → Type 0
Up [] = Unit {0}
Up (x ∷ xs) = NoneBefore x xs × Up xs

sorted_tail : (x : ParamValue) (xs : List ParamValue) → IsSortedBy is_below (x ∷ xs) → IsSortedBy is_below xs
sorted_tail x xs up k d low high = rw (add-one k) (rw (add-one (suc k)) at (up (suc k) d (omega arith) (omega arith)))

sorted_step : (x y : ParamValue) (xs : List ParamValue) → is_below y x ≡ false → IsSortedBy is_below (y ∷ xs) → IsSortedBy is_below (x ∷ y ∷ xs)
sorted_step x y xs first rest zero d low high = first
sorted_step x y xs first rest (suc k) d low high = rw (add-one (suc k)) (rw (add-one k) at (rest k d (omega arith) (omega arith)))

up_from : (xs : List ParamValue) → IsSortedBy is_below xs → Up xs
up_from [] up = tt
up_from (x ∷ []) up = (tt, tt)
up_from (x ∷ y ∷ xs) up = (up 0 x (omega arith) (omega arith), up_from (y ∷ xs) (sorted_tail x (y ∷ xs) up))

sorted_from : (xs : List ParamValue) → Up xs → IsSortedBy is_below xs
sorted_from [] up = λ k d low high. absurd (omega arith)
sorted_from (x ∷ []) up = λ k d low high. absurd (omega arith)
sorted_from (x ∷ y ∷ xs) up = sorted_step x y xs up.0 (sorted_from (y ∷ xs) up.1)

up_insert : (p : ParamValue) (a b : List ParamValue) → Up (a ++ b) → list_any (is_below p) a ≡ false → BeginsAbove p b → Up (a ++ p ∷ b)
up_insert p [] [] up before there = (tt, tt)
up_insert p [] (y ∷ b) up before there = (not_back p y there, up)
up_insert p (x ∷ []) b up before there =
    let h = or_parts (is_below p x) false before in
    (h.0, up_insert p [] b up.1 refl there)
up_insert p (x ∷ y ∷ a) b up before there =
    let h = or_parts (is_below p x) (list_any (is_below p) (y ∷ a)) before in
    (up.0, up_insert p (y ∷ a) b up.1 h.1 there)

up_behind : (a b : List ParamValue) → Up (a ++ b) → Up b
up_behind [] b up = up
up_behind (x ∷ a) b up = up_behind a b up.1

-- ---- the values of a name

values_append : (name : List ℕ) (a b : List ParamValue) → values_of_param name (a ++ b) ≡ values_of_param name a ++ values_of_param name b
values_append name [] b = refl
values_append name (x ∷ a) b = elim (cases_Bool (bytes_eq x.param name)) [
  | inl e ↦ rw e (ap (λ t. x.value ∷ t) (values_append name a b))
  | inr e ↦ rw e (values_append name a b)
]

-- what stands above a parameter has no value of its name
none_above : (p : ParamValue) (b : List ParamValue) → Up b → BeginsAbove p b → values_of_param p.param b ≡ []
none_above p [] up there = refl
none_above p (y ∷ []) up there = rw (below_other p y there) refl
none_above p (y ∷ z ∷ b) up there = rw (below_other p y there) (none_above p (z ∷ b) up.1 (below_on p y z there up.0))

-- a parameter more stands after those of its name
values_insert : (name : List ℕ) (p : ParamValue) (a b : List ParamValue) → Up b → BeginsAbove p b → values_of_param name (a ++ p ∷ b) ≡ values_of_param name (a ++ b) ++ values_of_param name (p ∷ [])
values_insert name p a b up there = elim (cases_Bool (bytes_eq p.param name)) [
  | inl e ↦
      let s : p.param ≡ name = same_text p.param name e in
      let none : values_of_param name b ≡ [] = subst (λ n. values_of_param n b ≡ []) s (none_above p b up there) in
      let left : values_of_param name (a ++ p ∷ b) ≡ values_of_param name a ++ p.value ∷ [] = values_append name a (p ∷ b) ∙ (rw (e, none) refl) in
      let right : values_of_param name (a ++ b) ≡ values_of_param name a = values_append name a b ∙ (rw (none, append-nil (values_of_param name a)) refl) in
      rw (left, right, e) refl
  | inr e ↦
      let left : values_of_param name (a ++ p ∷ b) ≡ values_of_param name a ++ values_of_param name b = values_append name a (p ∷ b) ∙ (rw e refl) in
      rw (left, values_append name a b, e, append-nil (values_of_param name a ++ values_of_param name b)) refl
]

-- ---- doubles

abbrev has_text : List ℕ → List (List ℕ) → Bool
has_text v vs = list_any (λ y. bytes_eq y v) vs

abbrev others : List ℕ → List (List ℕ) → List (List ℕ)
others x ys = filter (λ y. not (bytes_eq y x)) ys

others_append : (x : List ℕ) (ys zs : List (List ℕ)) → others x (ys ++ zs) ≡ others x ys ++ others x zs
others_append x [] zs = refl
others_append x (y ∷ ys) zs = elim (cases_Bool (bytes_eq y x)) [
  | inl e ↦ rw e (others_append x ys zs)
  | inr e ↦ rw e (ap (λ t. y ∷ t) (others_append x ys zs))
]

-- leaving out another text leaves this one
has_others : (x v : List ℕ) (ys : List (List ℕ)) → bytes_eq x v ≡ false → has_text v (others x ys) ≡ has_text v ys
has_others x v [] other = refl
has_others x v (y ∷ ys) other = elim (cases_Bool (bytes_eq y x)) [
  | inl e ↦ let n : bytes_eq y v ≡ false = rw (same_text y x e) other in rw (e, n) (has_others x v ys other)
  | inr e ↦ rw e (ap (λ t. bytes_eq y v || t) (has_others x v ys other))
]

other_back : (x v : List ℕ) → bytes_eq x v ≡ false → bytes_eq v x ≡ false
other_back x v e = elim (cases_Bool (bytes_eq v x)) [
  | inl t ↦ absurd (both_ways (bytes_eq x v) e (text_same x v (sym (same_text v x t))))
  | inr f ↦ f
]

-- one text more, unless it is there
once_more : (xs : List (List ℕ)) (v : List ℕ) → once bytes_eq (xs ++ v ∷ []) ≡ cond (has_text v (once bytes_eq xs)) (once bytes_eq xs) (once bytes_eq xs ++ v ∷ [])
once_more [] v = refl
once_more (x ∷ xs) v = elim (cases_Bool (bytes_eq x v)) [
  | inl e ↦ rw e (ap (λ t. x ∷ t) (ap (others x) (once_more xs v) ∙ same_left (has_text v (once bytes_eq xs)) (once bytes_eq xs) e))
  | inr e ↦ rw (e, has_others x v (once bytes_eq xs) e) (ap (λ t. x ∷ t) (ap (others x) (once_more xs v)) ∙ other_left (has_text v (once bytes_eq xs)) (once bytes_eq xs) e)
]
  where
    same_left : (t : Bool) (ys : List (List ℕ)) → bytes_eq x v ≡ true → others x (cond t ys (ys ++ v ∷ [])) ≡ others x ys
    same_left true ys e = refl
    same_left false ys e =
        let s : bytes_eq v x ≡ true = text_same v x (sym (same_text x v e)) in
        others_append x ys (v ∷ []) ∙ (rw (s, append-nil (others x ys)) refl)

    other_left : (t : Bool) (ys : List (List ℕ)) → bytes_eq x v ≡ false → x ∷ others x (cond t ys (ys ++ v ∷ [])) ≡ cond t (x ∷ others x ys) (x ∷ (others x ys ++ v ∷ []))
    other_left true ys e = refl
    other_left false ys e = let s : bytes_eq v x ≡ false = other_back x v e in ap (λ t. x ∷ t) (others_append x ys (v ∷ []) ∙ (rw s refl))

-- a parameter is there where its value is one of its name's
has_value : (p : ParamValue) (qs : List ParamValue) → list_any (λ q. same_param q p) qs ≡ has_text p.value (values_of_param p.param qs)
has_value p [] = refl
has_value p (q ∷ qs) = elim (cases_Bool (bytes_eq q.param p.param)) [
  | inl e ↦ rw e (ap (λ t. bytes_eq q.value p.value || t) (has_value p qs))
  | inr e ↦ rw e (has_value p qs)
]

-- ---- one parameter more

values_more : (name : List ℕ) (p : ParamValue) (written old new : List ParamValue) → AreKeptAs written old → (bytes_eq p.param name ≡ true → values_of_param name new ≡ cond (list_any (λ q. same_param q p) old) (values_of_param name old) (values_of_param name old ++ p.value ∷ [])) → (bytes_eq p.param name ≡ false → values_of_param name new ≡ values_of_param name old)
    → values_of_param name new ≡ once bytes_eq (values_of_param name (written ++ p ∷ []))
values_more name p written old new k here elsewhere = elim (cases_Bool (bytes_eq p.param name)) [
  | inl e ↦
      let s : p.param ≡ name = same_text p.param name e in
      let more : values_of_param name (written ++ p ∷ []) ≡ values_of_param name written ++ p.value ∷ [] = values_append name written (p ∷ []) ∙ (rw e refl) in
      let old_is : once bytes_eq (values_of_param name written) ≡ values_of_param name old = sym (k.values name) in
      let has : list_any (λ q. same_param q p) old ≡ has_text p.value (values_of_param name old) = has_value p old ∙ ap (λ n. has_text p.value (values_of_param n old)) s in
      let right : once bytes_eq (values_of_param name (written ++ p ∷ [])) ≡ cond (has_text p.value (values_of_param name old)) (values_of_param name old) (values_of_param name old ++ p.value ∷ [])
      = ap (once bytes_eq) more ∙ once_more (values_of_param name written) p.value ∙ ap (λ ys. cond (has_text p.value ys) ys (ys ++ p.value ∷ [])) old_is in
      here e ∙ ap (λ t. cond t (values_of_param name old) (values_of_param name old ++ p.value ∷ [])) has ∙ sym right
  | inr e ↦
      let more : values_of_param name (written ++ p ∷ []) ≡ values_of_param name written = values_append name written (p ∷ []) ∙ (rw (e, append-nil (values_of_param name written)) refl) in
      elsewhere e ∙ k.values name ∙ sym (ap (once bytes_eq) more)
]

pub keeps_double : (p : ParamValue) (old : List ParamValue) → list_any (λ q. same_param q p) old ≡ true → KeepsOne p old old
keeps_double p old there written k = record { sorted = k.sorted; values = λ name. values_more name p written old old k (λ e. rw there refl) (λ e. refl) }

keeps_at : (p : ParamValue) (a b : List ParamValue) → list_any (λ q. same_param q p) (a ++ b) ≡ false → list_any (is_below p) a ≡ false → BeginsAbove p b → KeepsOne p (a ++ b) (a ++ p ∷ b)
keeps_at p a b none before there written k =
    let up : Up (a ++ b) = up_from (a ++ b) k.sorted in
    let up_b : Up b = up_behind a b up in
    record {
      sorted = sorted_from (a ++ p ∷ b) (up_insert p a b up before there);
      values = λ name. values_more name p written (a ++ b) (a ++ p ∷ b) k
          (λ e. rw none (values_insert name p a b up_b there ∙ (rw e refl)))
          (λ e. values_insert name p a b up_b there ∙ (rw (e, append-nil (values_of_param name (a ++ b))) refl));
    }

pub keeps_new : (p : ParamValue) (old : List ParamValue) (place : ℕ) → list_any (λ q. same_param q p) old ≡ false → IsPlaceOf p old place → KeepsOne p old (insert old place p)
keeps_new p old place none at =
    let whole : take place old ++ drop place old ≡ old = take-append-drop place old in
    subst (λ o. KeepsOne p o (take place old ++ p ∷ drop place old)) whole (keeps_at p (take place old) (drop place old) (rw whole none) at.before at.there)
