-- The pieces of a text: what the items of an expression are cut into, and what the pieces read as.
use Rattle.std.proofs.Common.{◌≡◌, ℕ, Bool, true, false, not, List, [], ◌∷◌, ◌++◌, Some, refl, ap, inl, inr, append_assoc, append-nil}
use Rattle.std.specs.Prelude.{nat_eq}
use Rattle.std.specs.List.{list_all, flat_map}
use Rattle.std.proofs.lemmas.Bool.{cases_Bool, both_ways, and_parts, and_from, or_cases, eqb-true, not-true, not_from_false}
use Rattle.std.proofs.lemmas.List.Sums.{list_all-from_AllPass}
use Rattle.std.proofs.lemmas.List.Folds.{list_all-append}
use Rattle.object_values.specs.declared.nodes.ParamValue.{ParamValue}
use Rattle.object_values.specs.declared.expressions.ExprStep.{ExprStep}
use Rattle.object_values.specs.declared.expressions.ExprStep.TheVariants.{To, Pick}
use Rattle.meaning_texts.specs.Classes.{is_name_byte, is_key_byte, is_value_byte, IsName, IsId, IsKey, IsParamValue}
use Rattle.meaning_texts.specs.Expressions.{Items, no_more, space, param_value, param_alone, type_step, pick_step}
use Rattle.meaning_texts.specs.Reading.{is_mark, Piece, cut_at_marks, ItemList, put_param, put_step, name_part, value_part, read_piece, read_pieces}
use Rattle.meaning_texts.proofs.Words.{word_decides, id_decides, value_decides}

-- ---- bytes that aren't marks

-- a class without the marks has none of them
not_marks : (class : ℕ → Bool) → class 32 ≡ false → class 43 ≡ false → class 58 ≡ false → class 37 ≡ false → (b : ℕ) → class b ≡ true → is_mark b ≡ false
not_marks class s p c k b e = elim (cases_Bool (is_mark b)) [
  | inr f ↦ f
  | inl t ↦ elim (or_cases _ _ t) [
    | inr u ↦ absurd (both_ways (class b) (rw (eqb-true b 37 u) k) e)
    | inl t2 ↦ elim (or_cases _ _ t2) [
      | inr u ↦ absurd (both_ways (class b) (rw (eqb-true b 58 u) c) e)
      | inl t3 ↦ elim (or_cases _ _ t3) [
        | inr u ↦ absurd (both_ways (class b) (rw (eqb-true b 43 u) p) e)
        | inl u ↦ absurd (both_ways (class b) (rw (eqb-true b 32 u) s) e)
      ]
    ]
  ]
]

pub all_weaker : (p q : ℕ → Bool) → ((b : ℕ) → p b ≡ true → q b ≡ true) → (xs : List ℕ) → list_all p xs ≡ true → list_all q xs ≡ true
all_weaker p q gives [] e = refl
all_weaker p q gives (x ∷ xs) e = let h = and_parts (p x) (list_all p xs) e in and_from (q x) (list_all q xs) (gives x h.0) (all_weaker p q gives xs h.1)

abbrev pub no_marks : List ℕ → Type 0
no_marks word = list_all (λ b. not (is_mark b)) word ≡ true

class_no_marks : (class : ℕ → Bool) → class 32 ≡ false → class 43 ≡ false → class 58 ≡ false → class 37 ≡ false → (word : List ℕ) → list_all class word ≡ true → no_marks word
class_no_marks class s p c k word e = all_weaker class (λ b. not (is_mark b)) (λ b t. not_from_false (is_mark b) (not_marks class s p c k b t)) word e

pub name_no_marks : (word : List ℕ) → IsName word → no_marks word
name_no_marks word w = class_no_marks is_name_byte refl refl refl refl word (list_all-from_AllPass is_name_byte word w.each)

pub key_no_marks : (word : List ℕ) → IsKey word → no_marks word
key_no_marks word w = class_no_marks is_key_byte refl refl refl refl word (list_all-from_AllPass is_key_byte word w.each)

pub value_no_marks : (word : List ℕ) → IsParamValue word → no_marks word
value_no_marks word w = class_no_marks is_value_byte refl refl refl refl word (list_all-from_AllPass is_value_byte word w)

-- ---- the cut

-- a word before a text stands before its head
pub cut_word : (word rest : List ℕ) → no_marks word → cut_at_marks (word ++ rest) ≡ record { head = word ++ (cut_at_marks rest).head; pieces = (cut_at_marks rest).pieces }
cut_word [] rest none = refl
cut_word (b ∷ word) rest none =
    let h = and_parts (not (is_mark b)) (list_all (λ c. not (is_mark c)) word) none in
    rw (cut_word word rest h.1, not-true (is_mark b) h.0) refl

-- a mark and a word before a text whose head is empty
pub cut_item : (mark : ℕ) (word rest : List ℕ) → is_mark mark ≡ true → no_marks word → (cut_at_marks rest).head ≡ [] → cut_at_marks (mark ∷ (word ++ rest)) ≡ record { head = []; pieces = record { mark = mark; word = word } ∷ (cut_at_marks rest).pieces }
cut_item mark word rest m none empty = rw (cut_word word rest none, m, empty, append-nil word) refl

abbrev pub piece_text : Piece → List ℕ
piece_text p = p.mark ∷ p.word

-- nothing is lost by the cut
pub cut_text : (text : List ℕ) → (cut_at_marks text).head ++ flat_map piece_text (cut_at_marks text).pieces ≡ text
cut_text [] = refl
cut_text (b ∷ rest) = elim (cases_Bool (is_mark b)) [
  | inl e ↦ rw e (ap (λ t. b ∷ t) (cut_text rest))
  | inr e ↦ rw e (ap (λ t. b ∷ t) (cut_text rest))
]

-- ---- a name and a value

pub no_equals_step : (class : ℕ → Bool) → class 61 ≡ false → (b : ℕ) → class b ≡ true → nat_eq b 61 ≡ false
no_equals_step class none b e = elim (cases_Bool (nat_eq b 61)) [
  | inl t ↦ absurd (both_ways (class b) (rw (eqb-true b 61 t) none) e)
  | inr f ↦ f
]

name_part_of : (id of : List ℕ) → list_all is_key_byte id ≡ true → name_part (id ++ 61 ∷ of) ≡ id
name_part_of [] of e = refl
name_part_of (b ∷ id) of e = let h = and_parts (is_key_byte b) (list_all is_key_byte id) e in rw (no_equals_step is_key_byte refl b h.0) (ap (λ t. b ∷ t) (name_part_of id of h.1))

value_part_of : (id of : List ℕ) → list_all is_key_byte id ≡ true → value_part (id ++ 61 ∷ of) ≡ of
value_part_of [] of e = refl
value_part_of (b ∷ id) of e = let h = and_parts (is_key_byte b) (list_all is_key_byte id) e in rw (no_equals_step is_key_byte refl b h.0) (value_part_of id of h.1)

name_part_alone : (id : List ℕ) → list_all is_key_byte id ≡ true → name_part id ≡ id
name_part_alone [] e = refl
name_part_alone (b ∷ id) e = let h = and_parts (is_key_byte b) (list_all is_key_byte id) e in rw (no_equals_step is_key_byte refl b h.0) (ap (λ t. b ∷ t) (name_part_alone id h.1))

value_part_alone : (id : List ℕ) → list_all is_key_byte id ≡ true → value_part id ≡ []
value_part_alone [] e = refl
value_part_alone (b ∷ id) e = let h = and_parts (is_key_byte b) (list_all is_key_byte id) e in rw (no_equals_step is_key_byte refl b h.0) (value_part_alone id h.1)

id_bytes : (id : List ℕ) → IsId id → list_all is_key_byte id ≡ true
id_bytes id i = list_all-from_AllPass is_key_byte id i.key.each

-- ---- items read

abbrev pub items_with : List ParamValue → List ExprStep → ItemList
items_with ps ss = record { params = ps; steps = ss }

value_piece : (id of : List ℕ) (items : ItemList) → IsId id → IsParamValue of → read_piece (record { mark = 43; word = id ++ 61 ∷ of }) items ≡ Some (put_param (record { param = id; value = of }) items)
value_piece id of items i v = rw (name_part_of id of (id_bytes id i), value_part_of id of (id_bytes id i), (id_decides id).1 i, (value_decides of).1 v) refl

bare_piece : (id : List ℕ) (items : ItemList) → IsId id → read_piece (record { mark = 43; word = id }) items ≡ Some (put_param (record { param = id; value = [] }) items)
bare_piece id items i = rw (name_part_alone id (id_bytes id i), value_part_alone id (id_bytes id i), (id_decides id).1 i) refl

to_piece : (id : List ℕ) (items : ItemList) → IsId id → read_piece (record { mark = 58; word = id }) items ≡ Some (put_step (To id) items)
to_piece id items i = rw ((id_decides id).1 i) refl

pick_piece : (key : List ℕ) (items : ItemList) → IsKey key → read_piece (record { mark = 37; word = key }) items ≡ Some (put_step (Pick key) items)
pick_piece key items k = rw ((word_decides is_key_byte key).1 k) refl

-- The cut of these items has no head, and its pieces read as them.
pub record ReadsAs (text : List ℕ) (ps : List ParamValue) (ss : List ExprStep) : Type 0 where
  pub head : (cut_at_marks text).head ≡ []
  pub items : read_pieces (cut_at_marks text).pieces ≡ Some (items_with ps ss)

one_more : (mark : ℕ) (word rest : List ℕ) (ps more_ps : List ParamValue) (ss more_ss : List ExprStep) → is_mark mark ≡ true → no_marks word → ReadsAs rest ps ss
    → read_piece (record { mark = mark; word = word }) (items_with ps ss) ≡ Some (items_with more_ps more_ss) → ReadsAs (mark ∷ (word ++ rest)) more_ps more_ss
one_more mark word rest ps more_ps ss more_ss m none r e = record {
  head = rw (cut_item mark word rest m none r.head) refl;
  items = rw (cut_item mark word rest m none r.head, r.items) e;
}

pub items_read : (text : List ℕ) (ps : List ParamValue) (ss : List ExprStep) → Items text ps ss → ReadsAs text ps ss
items_read text ps ss no_more = record { head = refl; items = refl }
items_read text ps ss (space rest qs ts i) = one_more 32 [] rest qs qs ts ts refl refl (items_read rest qs ts i) refl
items_read text ps ss (param_value id of rest qs ts n v i) =
    let none : no_marks (id ++ 61 ∷ of) = word_equals id of n v in
    let r : ReadsAs (43 ∷ ((id ++ 61 ∷ of) ++ rest)) (record { param = id; value = of } ∷ qs) ts = one_more 43 (id ++ 61 ∷ of) rest qs (record { param = id; value = of } ∷ qs) ts ts refl none (items_read rest qs ts i) (value_piece id of (items_with qs ts) n v) in
    rw (← append_assoc id (61 ∷ of) rest) r
  where
    word_equals : (id of : List ℕ) → IsId id → IsParamValue of → no_marks (id ++ 61 ∷ of)
    word_equals id of n v = rw (list_all-append (λ b. not (is_mark b)) id (61 ∷ of)) (and_from _ _ (key_no_marks id n.key) (value_no_marks of v))
items_read text ps ss (param_alone id rest qs ts n i) = one_more 43 id rest qs (record { param = id; value = [] } ∷ qs) ts ts refl (key_no_marks id n.key) (items_read rest qs ts i) (bare_piece id (items_with qs ts) n)
items_read text ps ss (type_step id rest qs ts n i) = one_more 58 id rest qs qs ts (To id ∷ ts) refl (key_no_marks id n.key) (items_read rest qs ts i) (to_piece id (items_with qs ts) n)
items_read text ps ss (pick_step key rest qs ts k i) = one_more 37 key rest qs qs ts (Pick key ∷ ts) refl (key_no_marks key k) (items_read rest qs ts i) (pick_piece key (items_with qs ts) k)
