-- Items after one another: what is read of them, and that no others stand there.
use Rattle.std.proofs.Common.{◌≡◌, ◌≢◌, inl, inr, length-append, ℕ, ◌<◌, List, [], ◌∷◌, ◌++◌, length, sym, ap, ◌∙◌, subst, refl, arith, append_assoc, append-nil, decimal}
use Rattle.std.specs.Prelude.{flat_map, All, Option, Some, None}
use Rattle.std.specs.Borrow.{Bor}
use Rattle.std.proofs.lemmas.Bool.{cases_lt}
use Rattle.std.proofs.lemmas.List.Elements.{All-head, All-tail, All-cons, All-nil, All-append}
use Rattle.meaning_texts.specs.Lines.{with_lf}
use Rattle.meaning_commands.specs.Formed.{IsSmall, AreFormed, IsTold}
use Rattle.odin_commands.specs.Reading.{AreSoMany, ReadsFront, ReadsFrontItems, counted_items}
use Rattle.odin_commands.proofs.TextLemmas.{numbers_told}

-- as many items are told by their texts
pub items_told : {A : Type 0} (spelled : A → List ℕ) (IsGood : A → Type 0) → IsTold spelled IsGood → (xs ys : List A) (behind rest : List ℕ) → length xs ≡ length ys → All IsGood xs → All IsGood ys
    → flat_map spelled xs ++ behind ≡ flat_map spelled ys ++ rest → (xs ≡ ys) × (behind ≡ rest)
items_told spelled IsGood told [] [] behind rest many good also is = (refl, is)
items_told spelled IsGood told [] (y ∷ ys) behind rest many good also is = absurd (omega (arith, many))
items_told spelled IsGood told (x ∷ xs) [] behind rest many good also is = absurd (omega (arith, many))
items_told spelled IsGood told (x ∷ xs) (y ∷ ys) behind rest many good also is =
    let first = told x y (flat_map spelled xs ++ behind) (flat_map spelled ys ++ rest) (All-head IsGood x xs good) (All-head IsGood y ys also)
    (sym (append_assoc (spelled x) (flat_map spelled xs) behind) ∙ is ∙ append_assoc (spelled y) (flat_map spelled ys) rest) in
    let others = items_told spelled IsGood told xs ys behind rest (omega (arith, many)) (All-tail IsGood x xs good) (All-tail IsGood y ys also) first.1 in
    ((λ i. first.0 i ∷ others.0 i), others.1)

-- what stands after fewer items begins with another one
pub one_more : {A : Type 0} (spelled : A → List ℕ) (IsGood : A → Type 0) → IsTold spelled IsGood → (xs ys : List A) (behind rest : List ℕ) → length xs < length ys → All IsGood xs → All IsGood ys
    → flat_map spelled xs ++ behind ≡ flat_map spelled ys ++ rest → (y : A) × (left : List ℕ) × IsGood y × (behind ≡ spelled y ++ left)
one_more spelled IsGood told [] [] behind rest fewer good also is = absurd (omega (arith, fewer))
one_more spelled IsGood told [] (y ∷ ys) behind rest fewer good also is = (y, flat_map spelled ys ++ rest, All-head IsGood y ys also, is ∙ append_assoc (spelled y) (flat_map spelled ys) rest)
one_more spelled IsGood told (x ∷ xs) [] behind rest fewer good also is = absurd (omega (arith, fewer))
one_more spelled IsGood told (x ∷ xs) (y ∷ ys) behind rest fewer good also is =
    let first = told x y (flat_map spelled xs ++ behind) (flat_map spelled ys ++ rest) (All-head IsGood x xs good) (All-head IsGood y ys also)
    (sym (append_assoc (spelled x) (flat_map spelled xs) behind) ∙ is ∙ append_assoc (spelled y) (flat_map spelled ys) rest) in
    one_more spelled IsGood told xs ys behind rest (omega (arith, fewer)) (All-tail IsGood x xs good) (All-tail IsGood y ys also) first.1

-- a text that begins with these items
pub record Begins {A : Type 0} (spelled : A → List ℕ) (IsGood : A → Type 0) (text : List ℕ) (items : List A) (rest : List ℕ) : Type 0 where
  pub is : text ≡ flat_map spelled items ++ rest
  pub good : All IsGood items

pub begins_none : {A : Type 0} (spelled : A → List ℕ) (IsGood : A → Type 0) (text : List ℕ) (items : List A) → items ≡ [] → Begins spelled IsGood text items text
begins_none spelled IsGood text items none = subst (λ items. Begins spelled IsGood text items text) (sym none) (record { is = refl; good = All-nil IsGood })

-- and with one more
pub begins_more : {A : Type 0} (spelled : A → List ℕ) (IsGood : A → Type 0) (text : List ℕ) (items : List A) (rest : List ℕ) (item : A) (behind : List ℕ) → Begins spelled IsGood text items rest
    → rest ≡ spelled item ++ behind → IsGood item → Begins spelled IsGood text (items ++ item ∷ []) behind
begins_more {A = A} spelled IsGood text items rest item behind begun is good = record {
  is = begun.is ∙ ap (λ l. flat_map spelled items ++ l) is ∙ sym (append_assoc (flat_map spelled items) (spelled item) behind) ∙ ap (λ l. l ++ behind) (one_behind item items);
  good = All-append IsGood items (item ∷ []) begun.good (All-cons IsGood item [] good (All-nil IsGood));
}
  where
    one_behind : (item : A) (items : List A) → flat_map spelled items ++ spelled item ≡ flat_map spelled (items ++ item ∷ [])
    one_behind item [] = sym (append-nil (spelled item))
    one_behind item (x ∷ items) = append_assoc (spelled x) (flat_map spelled items) (spelled item) ∙ ap (λ l. spelled x ++ l) (one_behind item items)

-- so many items don't stand where another item is missing
pub no_items : {A : Type 0} (spelled : A → List ℕ) (IsGood : A → Type 0) → IsTold spelled IsGood → (text : List ℕ) (items : List A) (rest : List ℕ) (count : ℕ) → Begins spelled IsGood text items rest → length items < count
    → ((item : A) (behind : List ℕ) → IsGood item → rest ≢ spelled item ++ behind) → (others : List A) (behind : List ℕ) → AreSoMany IsGood count others → text ≢ flat_map spelled others ++ behind
no_items spelled IsGood told text items rest count begun fewer none others behind many is =
    let found = one_more spelled IsGood told items others rest behind (omega (arith, fewer, many.many)) begun.good many.each (sym begun.is ∙ is) in
    none found.0 found.1 found.2 found.3

-- ---- after their count

pub counted_told : {A : Type 0} (spelled : A → List ℕ) (IsGood : A → Type 0) → IsTold spelled IsGood → IsTold (counted_items spelled) (AreFormed IsGood)
counted_told spelled IsGood told xs ys behind rest good also is =
    let first = numbers_told (length xs) (length ys) (flat_map spelled xs ++ behind) (flat_map spelled ys ++ rest) good.few also.few
    (sym (append_assoc _ (flat_map spelled xs) behind) ∙ is ∙ append_assoc _ (flat_map spelled ys) rest) in
    items_told spelled IsGood told xs ys behind rest first.0 good.each also.each first.1

-- what is read of the items after their count
pub counted_reads : {A : Type 0} (spelled : A → List ℕ) (IsGood : A → Type 0) (text rest : List ℕ) (count : ℕ) → text ≡ with_lf (decimal count) ++ rest → IsSmall count
    → (read : Option (List A × Bor (List ℕ))) → ReadsFrontItems spelled IsGood count rest read → ReadsFront (counted_items spelled) (AreFormed IsGood) text read
counted_reads spelled IsGood text rest count is small (Some read) (rest_is, good) = (
  is ∙ ap (λ n. with_lf (decimal n) ++ rest) (sym good.many) ∙ ap (λ l. with_lf (decimal (length read.0)) ++ l) rest_is ∙ sym (append_assoc (with_lf (decimal (length read.0))) (flat_map spelled read.0) read.1.now),
  record { each = good.each; few = subst IsSmall (sym good.many) small },
)
counted_reads spelled IsGood text rest count is small None none = λ items behind good reads.
    let both = numbers_told count (length items) rest (flat_map spelled items ++ behind) small good.few (sym is ∙ reads ∙ append_assoc (with_lf (decimal (length items))) (flat_map spelled items) behind) in
    none items behind (record { many = sym both.0; each = good.each }) both.1

-- ---- to the end of a text

-- a text that goes on with no item isn't a list of them, where each has a byte
pub no_list_of : {A : Type 0} (spelled : A → List ℕ) (IsGood : A → Type 0) → IsTold spelled IsGood → ((item : A) → 0 < length (spelled item)) → (text : List ℕ) (items : List A) (rest : List ℕ) → Begins spelled IsGood text items rest → 0 < length rest
    → ((item : A) (behind : List ℕ) → IsGood item → rest ≢ spelled item ++ behind) → (others : List A) → All IsGood others → text ≢ flat_map spelled others
no_list_of {A = A} spelled IsGood told some text items rest begun more none others good is = elim (cases_lt (length items) (length others)) [
  | inl fewer ↦
      let found = one_more spelled IsGood told items others rest [] fewer begun.good good joined in
      none found.0 found.1 found.2 found.3
  | inr enough ↦ elim (cases_lt (length others) (length items)) [
    | inl less ↦
        let found = one_more spelled IsGood told others items [] rest less good begun.good (sym joined) in
        let byte = some found.0 in
        omega (arith, ap length found.3, length-append (spelled found.0) found.1)
    | inr all ↦
        let same = items_told spelled IsGood told items others rest [] (omega arith) begun.good good joined in
        omega (arith, ap length same.1)
  ]
]
  where
    joined : flat_map spelled items ++ rest ≡ flat_map spelled others ++ []
    joined = sym begun.is ∙ is ∙ sym (append-nil (flat_map spelled others))

-- where nothing is left, the items are the text
pub whole_list : {A : Type 0} (spelled : A → List ℕ) (IsGood : A → Type 0) (text : List ℕ) (items : List A) (rest : List ℕ) → Begins spelled IsGood text items rest → rest ≡ [] → (text ≡ flat_map spelled items) × All IsGood items
whole_list spelled IsGood text items rest begun none = (begun.is ∙ ap (λ l. flat_map spelled items ++ l) none ∙ append-nil (flat_map spelled items), begun.good)
