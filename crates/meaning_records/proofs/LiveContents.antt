-- The contents that live batches add: of a batch the same values, in whatever order, over contents with the same values.
use Rattle.std.proofs.Common.{◌≡◌, ◌⊎◌, inl, inr, ℕ, zero, suc, ◌+◌, List, [], ◌∷◌}
use Rattle.std.proofs.Common.{◌++◌, length, map, length-append, append-nil, refl, sym, ap, ◌∙◌, subst, arith}
use Rattle.std.specs.Prelude.{Some}
use Rattle.std.specs.List.{flat_map}
use Rattle.std.proofs.lemmas.Option.{none-some, same_Some}
use Rattle.object_values.specs.declared.views.Value.{Value}
use Rattle.meaning_texts.specs.Lists.{IsIn}
use Rattle.meaning_texts.proofs.Lemmas.{in_left, in_right, in_either, in_without, split_at}
use Rattle.object_values.specs.declared.items.StoredRecord.{StoredRecord}
use Rattle.object_values.specs.declared.items.Item.{Item}
use Rattle.object_values.specs.declared.items.Item.TheVariants.{Content, Node}
use Rattle.meaning_records.specs.Records.{item}
use Rattle.meaning_records.specs.Tables.{IsContent, IsNoContent}
use Rattle.meaning_records.specs.Batches.{EachOnce}
use Rattle.meaning_records.specs.States.{spell_batch}
use Rattle.meaning_records.specs.Live.{content_in, contents_after}

-- the contents in a batch
pub contents_before : (values : List Value) (last : List Item) → flat_map content_in last ≡ [] → flat_map content_in (map Content values ++ last) ≡ values
contents_before [] last none = none
contents_before (v ∷ values) last none = ap (λ (l : List Value). v ∷ l) (contents_before values last none)

pub contents_in : (values : List Value) (last : Item) → content_in last ≡ [] → flat_map content_in (map Content values ++ last ∷ []) ≡ values
contents_in values last none = contents_before values (last ∷ []) (append-nil (content_in last) ∙ none)

pub no_content : (stored : List StoredRecord) → flat_map content_in (map Node stored) ≡ []
no_content [] = refl
no_content (s ∷ stored) = no_content stored

-- ---- which values there are

abbrev pub HasValue : List Value → Value → Type 0
HasValue contents value = (number : ℕ) × IsContent contents number value

has_later : (v : Value) (contents : List Value) (value : Value) → HasValue contents value → HasValue (v ∷ contents) value
has_later v contents value has = (suc has.0, has.1)

has_not : (contents : List Value) (value : Value) → HasValue contents value → IsNoContent contents value → ⊥
has_not contents value has none = none has.0 has.1

content_there : (values : List Value) (value : Value) (number : ℕ) → IsContent values number value → IsIn value values
content_there [] value number is = absurd (none-some value is)
content_there (v ∷ values) value zero is = inl (sym (same_Some v value is))
content_there (v ∷ values) value (suc number) is = inr (content_there values value number is)

has_there : (values : List Value) (value : Value) → IsIn value values → HasValue values value
has_there [] value there = absurd there
has_there (v ∷ values) value (inl same) = (0, ap Some (sym same))
has_there (v ∷ values) value (inr there) = has_later v values value (has_there values value there)

has_either : (contents added : List Value) (value : Value) → HasValue (contents ++ added) value → HasValue contents value ⊎ IsIn value added
has_either contents added value has = elim (in_either value contents added (content_there (contents ++ added) value has.0 has.1)) [
  | inl before ↦ inl (has_there contents value before)
  | inr new ↦ inr new
]

has_left : (contents later : List Value) (value : Value) → HasValue contents value → HasValue (contents ++ later) value
has_left contents later value has = has_there (contents ++ later) value (in_left value contents later (content_there contents value has.0 has.1))

pub has_right : (contents added : List Value) (value : Value) → IsIn value added → HasValue (contents ++ added) value
has_right contents added value there = has_there (contents ++ added) value (in_right value contents added there)

pub record SameValues (a b : List Value) : Type 0 where
  pub to : (value : Value) → HasValue a value → HasValue b value
  pub from : (value : Value) → HasValue b value → HasValue a value

pub same_none : SameValues [] []
same_none = record { to = λ value has. has; from = λ value has. has }

-- ---- how long contents are together, in whatever order

cost : Value → ℕ
cost value = length (item.spell (Content value))

costs : List Value → ℕ
costs [] = 0
costs (value ∷ values) = cost value + costs values

costs-append : (xs ys : List Value) → costs (xs ++ ys) ≡ costs xs + costs ys
unfolding costs
costs-append [] ys = omega arith
costs-append (x ∷ xs) ys = let rest = costs-append xs ys in omega (arith, rest)

in_with : (v a : Value) (front back : List Value) → IsIn v (front ++ back) → IsIn v (front ++ a ∷ back)
in_with v a front back i = elim (in_either v front back i) [ inl k ↦ in_left v front (a ∷ back) k | inr k ↦ in_right v front (a ∷ back) (inr k) ]

once_without : (x : Value) (front back : List Value) → EachOnce (front ++ x ∷ back) → EachOnce (front ++ back) × (¬ IsIn x (front ++ back))
once_without x [] back once = (once.1, once.0)
once_without x (y ∷ front) back once =
    let rest = once_without x front back once.1 in (
      (λ i. once.0 (in_with y x front back i), rest.0),
      λ i. elim i [ inl same ↦ once.0 (in_right y front (x ∷ back) (inl (sym same))) | inr k ↦ rest.1 k ],
    )

same_costs : (xs ys : List Value) → EachOnce xs → EachOnce ys → ((v : Value) → IsIn v xs → IsIn v ys) → ((v : Value) → IsIn v ys → IsIn v xs)
    → costs xs ≡ costs ys
unfolding costs
same_costs [] [] once_x once_y to from = refl
same_costs [] (y ∷ ys) once_x once_y to from = absurd (from y (inl refl))
same_costs (x ∷ xs) ys once_x once_y to from =
    let cut = split_at x ys (to x (inl refl)) in
    let front = cut.0 in
    let back = cut.1 in
    let without = once_without x front back (subst EachOnce cut.2 once_y) in
    let there = λ (v : Value) (i : IsIn v xs). elim (in_without v x front back (subst (IsIn v) cut.2 (to v (inr i)))) as (λ _. IsIn v (front ++ back)) [
      | inl same ↦ absurd (once_x.0 (subst (λ (u : Value). IsIn u xs) same i))
      | inr k ↦ k
    ] in
    let here = λ (v : Value) (i : IsIn v (front ++ back)). elim (from v (subst (IsIn v) (sym cut.2) (in_with v x front back i))) as (λ _. IsIn v xs) [
      | inl same ↦ absurd (without.1 (subst (λ (u : Value). IsIn u (front ++ back)) same i))
      | inr k ↦ k
    ] in
    let rest : costs xs ≡ costs (front ++ back) = same_costs xs (front ++ back) once_x.1 without.0 there here in
    let whole : costs ys ≡ costs front + (cost x + costs back) = ap costs cut.2 ∙ costs-append front (x ∷ back) in
    omega (arith, rest, whole, costs-append front back)

contents_long : (added : List Value) (last : List Item) → length (spell_batch (map Content added ++ last)) ≡ costs added + length (spell_batch last)
unfolding costs cost
contents_long [] last = omega arith
contents_long (v ∷ added) last =
    let rest = contents_long added last in
    length-append (item.spell (Content v)) (spell_batch (map Content added ++ last))
    ∙ sum_of (length (item.spell (Content v))) (length (spell_batch (map Content added ++ last))) (costs added) (length (spell_batch last)) rest
  where
    sum_of : (a b d e : ℕ) → b ≡ d + e → a + b ≡ (a + d) + e
    sum_of a b d e same = omega arith

-- ---- two batches of the same values

-- a batch that adds what it needs of these values, and ends in these items
pub record Brings (contents needed : List Value) (last items : List Item) : Type 0 where
  pub added : List Value
  pub once : EachOnce added
  pub needed_are : (value : Value) → IsIn value added → IsIn value needed
  pub new : (value : Value) → IsIn value added → IsNoContent contents value
  pub whole : (value : Value) → IsIn value needed → HasValue (contents ++ added) value
  pub none_last : flat_map content_in last ≡ []
  pub items_are : items ≡ map Content added ++ last

module _ (a b : List Value) (same : SameValues a b) (needed : List Value) (p q xs ys : List Item)
    (first : Brings a needed p xs) (second : Brings b needed q ys) where
  added_too : (value : Value) → IsIn value first.added → IsIn value second.added
  added_too value i = elim (has_either b second.added value (second.whole value (first.needed_are value i))) [
    | inl has ↦ absurd (has_not a value (same.from value has) (first.new value i))
    | inr k ↦ k
  ]

  added_back : (value : Value) → IsIn value second.added → IsIn value first.added
  added_back value i = elim (has_either a first.added value (first.whole value (second.needed_are value i))) [
    | inl has ↦ absurd (has_not b value (same.to value has) (second.new value i))
    | inr k ↦ k
  ]

  pub same_long : length (spell_batch p) ≡ length (spell_batch q) → length (spell_batch xs) ≡ length (spell_batch ys)
  same_long last =
      let values = same_costs first.added second.added first.once second.once added_too added_back in
      let left : length (spell_batch xs) ≡ costs first.added + length (spell_batch p) =
      ap (λ (l : List Item). length (spell_batch l)) first.items_are ∙ contents_long first.added p in
      let right : length (spell_batch ys) ≡ costs second.added + length (spell_batch q) =
      ap (λ (l : List Item). length (spell_batch l)) second.items_are ∙ contents_long second.added q in
      left ∙ ap (λ (n : ℕ). n + length (spell_batch p)) values ∙ ap (λ (n : ℕ). costs second.added + n) last ∙ sym right

  after_first : contents_after a xs ≡ a ++ first.added
  after_first =
      ap (λ (l : List Item). contents_after a l) first.items_are ∙ ap (λ (l : List Value). a ++ l) (contents_before first.added p first.none_last)

  after_second : contents_after b ys ≡ b ++ second.added
  after_second =
      ap (λ (l : List Item). contents_after b l) second.items_are ∙ ap (λ (l : List Value). b ++ l) (contents_before second.added q second.none_last)

  pub same_after : SameValues (contents_after a xs) (contents_after b ys)
  same_after = record {
    to = λ value has. elim (has_either a first.added value (subst (λ (l : List Value). HasValue l value) after_first has)) [
      | inl before ↦ subst (λ (l : List Value). HasValue l value) (sym after_second) (has_left b second.added value (same.to value before))
      | inr i ↦ subst (λ (l : List Value). HasValue l value) (sym after_second) (has_right b second.added value (added_too value i))
    ];
    from = λ value has. elim (has_either b second.added value (subst (λ (l : List Value). HasValue l value) after_second has)) [
      | inl before ↦ subst (λ (l : List Value). HasValue l value) (sym after_first) (has_left a first.added value (same.from value before))
      | inr i ↦ subst (λ (l : List Value). HasValue l value) (sym after_first) (has_right a first.added value (added_back value i))
    ];
  }
