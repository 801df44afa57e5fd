-- The expression of a text is canonical.
use Rattle.std.proofs.Common.{◌≡◌, ℕ, Bool, false, not, List, [], ◌∷◌, refl, sym, ap, ◌∙◌, inl, inr, arith}
use Rattle.std.specs.Prelude.{filter, bytes_eq}
use Rattle.std.specs.List.{All}
use Rattle.std.proofs.lemmas.Bool.{cases_Bool}
use Rattle.std.proofs.lemmas.Slice.Eq.{bytes_eq-Decides}
use Rattle.std.proofs.lemmas.List.Elements.{All-head, All-tail, All-nil, All-cons, All-filter}
use Rattle.object_values.specs.declared.nodes.ParamValue.{ParamValue}
use Rattle.object_values.specs.declared.expressions.ExprStep.{ExprStep}
use Rattle.object_values.specs.declared.expressions.ExprStep.TheVariants.{To, Pick}
use Rattle.object_values.specs.declared.expressions.Expression.{Expression}
use Rattle.meaning_texts.specs.Lists.{once}
use Rattle.meaning_texts.specs.Expressions.{Items, no_more, space, param_value, param_alone, type_step, pick_step, ExpressionText, AreKeptAs, values_of_param, IsStepOfClass, IsParamOfClass, IsCanonical}
use Rattle.meaning_texts.specs.Reading.{same_param, sorted, put_sorted, kept_params}
use Rattle.meaning_texts.proofs.Params.{one_kept, before}

-- ---- filters and first places

abbrev Texts : Type 0
Texts = List (List ℕ)

abbrev is_other : List ℕ → List ℕ → Bool
is_other v y = not (bytes_eq y v)

filters_commute : (p q : List ℕ → Bool) (xs : Texts) → filter p (filter q xs) ≡ filter q (filter p xs)
filters_commute p q [] = refl
filters_commute p q (x ∷ xs) = elim (cases_Bool (p x)) [
  | inl a ↦ elim (cases_Bool (q x)) [
    | inl b ↦ rw (a, b, a) (ap (λ t. x ∷ t) (filters_commute p q xs))
    | inr b ↦ rw (a, b) (filters_commute p q xs)
  ]
  | inr a ↦ elim (cases_Bool (q x)) [
    | inl b ↦ rw (a, b, a) (filters_commute p q xs)
    | inr b ↦ rw (a, b) (filters_commute p q xs)
  ]
]

filter_twice : (p : List ℕ → Bool) (xs : Texts) → filter p (filter p xs) ≡ filter p xs
filter_twice p [] = refl
filter_twice p (x ∷ xs) = elim (cases_Bool (p x)) [
  | inl a ↦ rw (a, a) (ap (λ t. x ∷ t) (filter_twice p xs))
  | inr a ↦ rw a (filter_twice p xs)
]

-- a filter that drops a text drops all that are equal to it
drops_equal : (p : List ℕ → Bool) (v : List ℕ) (xs : Texts) → p v ≡ false → filter p (filter (is_other v) xs) ≡ filter p xs
drops_equal p v [] none = refl
drops_equal p v (x ∷ xs) none = elim (cases_Bool (bytes_eq x v)) [
  | inl e ↦ let n : p x ≡ false = rw ((bytes_eq-Decides x v).0 e) none in rw (e, n) (drops_equal p v xs none)
  | inr e ↦ elim (cases_Bool (p x)) [
    | inl a ↦ rw (e, a) (ap (λ t. x ∷ t) (drops_equal p v xs none))
    | inr a ↦ rw (e, a) (drops_equal p v xs none)
  ]
]

once_filter : (p : List ℕ → Bool) (xs : Texts) → once bytes_eq (filter p xs) ≡ filter p (once bytes_eq xs)
once_filter p [] = refl
once_filter p (x ∷ xs) = elim (cases_Bool (p x)) [
  | inl a ↦ rw a (ap (λ t. x ∷ t) (ap (filter (is_other x)) (once_filter p xs) ∙ filters_commute (is_other x) p (once bytes_eq xs)))
  | inr a ↦ rw a (once_filter p xs ∙ sym (drops_equal p x (once bytes_eq xs) a))
]

once_twice : (xs : Texts) → once bytes_eq (once bytes_eq xs) ≡ once bytes_eq xs
once_twice [] = refl
once_twice (x ∷ xs) = ap (λ t. x ∷ t) (ap (filter (is_other x)) (once_filter (is_other x) (once bytes_eq xs)) ∙ filter_twice (is_other x) (once bytes_eq (once bytes_eq xs)) ∙ ap (filter (is_other x)) (once_twice xs))

kept_again : (written kept : List ParamValue) → AreKeptAs written kept → AreKeptAs kept kept
kept_again written kept k = record { sorted = k.sorted; values = λ name. k.values name ∙ sym (once_twice (values_of_param name written)) ∙ ap (once bytes_eq) (sym (k.values name)) }

-- ---- classes

put_class : (p : ParamValue) (qs : List ParamValue) → IsParamOfClass p → All IsParamOfClass qs → All IsParamOfClass (put_sorted p qs)
put_class p [] c all = All-cons IsParamOfClass p [] c all
put_class p (q ∷ qs) c all = elim (cases_Bool (before q p)) [
  | inl e ↦ rw e (All-cons IsParamOfClass q (put_sorted p qs) (All-head IsParamOfClass q qs all) (put_class p qs c (All-tail IsParamOfClass q qs all)))
  | inr e ↦ rw e (All-cons IsParamOfClass p (q ∷ qs) c all)
]

sorted_class : (ps : List ParamValue) → All IsParamOfClass ps → All IsParamOfClass (sorted ps)
sorted_class [] all = all
sorted_class (p ∷ ps) all = put_class p (sorted ps) (All-head IsParamOfClass p ps all) (sorted_class ps (All-tail IsParamOfClass p ps all))

single_class : (ps : List ParamValue) → All IsParamOfClass ps → All IsParamOfClass (once same_param ps)
single_class [] all = all
single_class (p ∷ ps) all = All-cons IsParamOfClass p _ (All-head IsParamOfClass p ps all)
    (All-filter (λ (q : ParamValue). not (same_param q p)) IsParamOfClass (once same_param ps) (single_class ps (All-tail IsParamOfClass p ps all)))

kept_class : (ps : List ParamValue) → All IsParamOfClass ps → All IsParamOfClass (kept_params ps)
unfolding kept_params
kept_class ps all = sorted_class (once same_param ps) (single_class ps all)

pub record OfClass (ps : List ParamValue) (ss : List ExprStep) : Type 0 where
  pub params : All IsParamOfClass ps
  pub steps : All IsStepOfClass ss

items_class : (text : List ℕ) (ps : List ParamValue) (ss : List ExprStep) → Items text ps ss → OfClass ps ss
items_class text ps ss no_more = record { params = All-nil IsParamOfClass; steps = All-nil IsStepOfClass }
items_class text ps ss (space rest qs ts i) = items_class rest qs ts i
items_class text ps ss (param_value id of rest qs ts n v i) =
    let h = items_class rest qs ts i in record { params = All-cons IsParamOfClass (record { param = id; value = of }) qs (record { name = n; value = v }) h.params; steps = h.steps }
items_class text ps ss (param_alone id rest qs ts n i) =
    let h = items_class rest qs ts i in record { params = All-cons IsParamOfClass (record { param = id; value = [] }) qs (record { name = n; value = λ k d low. absurd (omega arith) }) h.params; steps = h.steps }
items_class text ps ss (type_step id rest qs ts n i) = let h = items_class rest qs ts i in record { params = h.params; steps = All-cons IsStepOfClass (To id) ts n h.steps }
items_class text ps ss (pick_step key rest qs ts k i) = let h = items_class rest qs ts i in record { params = h.params; steps = All-cons IsStepOfClass (Pick key) ts k h.steps }

pub canonical : (text : List ℕ) (e : Expression) → ExpressionText text e → IsCanonical e
canonical text e t =
    let h : OfClass t.params e.steps = items_class t.written.behind t.params e.steps t.written.items in
    let k : All IsParamOfClass e.params = rw (one_kept t.params e.params t.kept) (kept_class t.params h.params) in
    record { source = t.written.name; params = k; steps = h.steps; kept = kept_again t.params e.params t.kept }
