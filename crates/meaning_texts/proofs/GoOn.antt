-- Bytes that pass the test of fronts go on to a text of the grammar.
use Rattle.std.proofs.Common.{◌≡◌, ℕ, Bool, true, false, not, ◌&&◌, ◌||◌, List, [], ◌∷◌, ◌++◌, length, Option, Some, None, cond, refl, sym, ap, ◌∙◌, inl, inr, append-nil, arith}
use Rattle.std.specs.Prelude.{nat_eq, nat_le, nat_lt, is_some}
use Rattle.std.specs.List.{list_all}
use Rattle.std.proofs.lemmas.Bool.{cases_Bool, both_ways, and_parts, and_from, not-true, or_parts, or_from, lt-ltb}
use Rattle.meaning_texts.specs.Classes.{is_name_byte, is_key_byte, begins_with_letter}
use Rattle.meaning_texts.specs.Limits.{word_limit}
use Rattle.meaning_texts.specs.Tests.{is_word_of, is_name, is_id, is_key, is_param_value}
use Rattle.meaning_texts.specs.Expressions.{IsFront}
use Rattle.meaning_texts.specs.Reading.{is_mark, Piece, PieceCut, cut_at_marks, cut_before, ItemList, name_part, value_part, read_piece, read_pieces, past_spaces}
use Rattle.meaning_texts.specs.Lists.{is_empty}
use Rattle.meaning_texts.specs.Fronts.{begins_word, begins_id, has_equals, begins_param, begins_piece, no_items, reads_piece, begins_pieces, begins_cut, is_front}
use Rattle.meaning_texts.proofs.Pieces.{no_marks, no_equals_step, cut_word}
use Rattle.meaning_texts.proofs.Readings.{written_from_cut}

-- ---- a piece reads beside all items

some_is : {A : Type 0} (o : Option A) → is_some o ≡ true → (x : A) × (o ≡ Some x)
some_is None e = absurd (both_ways false refl e)
some_is (Some x) e = (x, refl)

is_some_cond : {A B : Type 0} (b : Bool) (x : A) (y : B) → is_some (cond b (Some x) None) ≡ is_some (cond b (Some y) None)
is_some_cond true x y = refl
is_some_cond false x y = refl

pub reads_alike : (p : Piece) (a b : ItemList) → is_some (read_piece p a) ≡ is_some (read_piece p b)
reads_alike p a b = elim (cases_Bool (nat_eq p.mark 32)) [
  | inl e ↦ rw e (is_some_cond (is_empty p.word) a b)
  | inr e ↦ elim (cases_Bool (nat_eq p.mark 43)) [
    | inl f ↦ rw (e, f) (is_some_cond (is_id (name_part p.word) && is_param_value (value_part p.word)) _ _)
    | inr f ↦ elim (cases_Bool (nat_eq p.mark 58)) [
      | inl g ↦ rw (e, f, g) (is_some_cond (is_id p.word) _ _)
      | inr g ↦ elim (cases_Bool (nat_eq p.mark 37)) [
        | inl h ↦ rw (e, f, g, h) (is_some_cond (is_key p.word) _ _)
        | inr h ↦ rw (e, f, g, h) refl
      ]
    ]
  ]
]

-- ---- what makes a front whole

-- bytes after a front that make it whole, and are no marks
pub record Completes (whole : List ℕ → Bool) (word : List ℕ) : Type 0 where
  pub more : List ℕ
  pub none : no_marks more
  pub is : whole (word ++ more) ≡ true

abbrev one_a : List ℕ
one_a = 97 ∷ []

word_more : (class : ℕ → Bool) → class 97 ≡ true → (word : List ℕ) → begins_word class word ≡ true → Completes (is_word_of class) word
word_more class a [] e = record { more = one_a; none = refl; is = rw a refl }
word_more class a (b ∷ word) e =
    let h = and_parts (nat_le (length (b ∷ word)) word_limit) (list_all class (b ∷ word)) e in
    record { more = []; none = refl; is = rw (append-nil word) (and_from _ _ (and_from _ _ (lt-ltb 0 (length (b ∷ word)) (omega arith)) h.0) h.1) }

id_more : (word : List ℕ) → begins_id word ≡ true → Completes is_id word
id_more [] e = record { more = one_a; none = refl; is = refl }
id_more (b ∷ word) e =
    let h = and_parts (begins_word is_key_byte (b ∷ word)) (begins_with_letter (b ∷ word)) e in
    let k = and_parts (nat_le (length (b ∷ word)) word_limit) (list_all is_key_byte (b ∷ word)) h.0 in
    record { more = []; none = refl; is = rw (append-nil word) (and_from _ _ (and_from _ _ (and_from _ _ (lt-ltb 0 (length (b ∷ word)) (omega arith)) k.0) k.1) h.1) }

no_equals_name : (word : List ℕ) → has_equals word ≡ false → name_part word ≡ word
no_equals_name [] e = refl
no_equals_name (b ∷ word) e = let h = or_parts (nat_eq b 61) (has_equals word) e in rw h.0 (ap (λ t. b ∷ t) (no_equals_name word h.1))

no_equals_value : (word : List ℕ) → has_equals word ≡ false → value_part word ≡ []
no_equals_value [] e = refl
no_equals_value (b ∷ word) e = let h = or_parts (nat_eq b 61) (has_equals word) e in rw h.0 (no_equals_value word h.1)

abbrev whole_param : List ℕ → Bool
whole_param word = is_id (name_part word) && is_param_value (value_part word)

keys_no_equals : (word : List ℕ) → list_all is_key_byte word ≡ true → has_equals word ≡ false
keys_no_equals [] e = refl
keys_no_equals (b ∷ word) e = let h = and_parts (is_key_byte b) (list_all is_key_byte word) e in or_from (nat_eq b 61) (has_equals word) (no_equals_step is_key_byte refl b h.0) (keys_no_equals word h.1)

pub no_equals_id : (word : List ℕ) → is_id word ≡ true → has_equals word ≡ false
no_equals_id word i =
    let h = and_parts (is_key word) (begins_with_letter word) i in
    let k = and_parts (nat_lt 0 (length word) && nat_le (length word) word_limit) (list_all is_key_byte word) h.0 in
    keys_no_equals word k.1

param_more : (word : List ℕ) → begins_param word ≡ true → Completes whole_param word
param_more word e = elim (cases_Bool (has_equals word)) [
  | inl t ↦ record { more = []; none = refl; is = rw (append-nil word) (rw t at e) }
  | inr t ↦
      let c : Completes is_id word = id_more word (rw t at e) in
      let n : has_equals (word ++ c.more) ≡ false = no_equals_id (word ++ c.more) c.is in
      record { more = c.more; none = c.none; is = rw (no_equals_name (word ++ c.more) n, no_equals_value (word ++ c.more) n, c.is) refl }
]

-- a piece with more bytes
abbrev longer : Piece → List ℕ → Piece
longer p more = record { mark = p.mark; word = p.word ++ more }

pub record CompletesPiece (p : Piece) : Type 0 where
  pub more : List ℕ
  pub none : no_marks more
  pub is : reads_piece (longer p more) ≡ true

empty_more : (word : List ℕ) → is_empty word ≡ true → Completes is_empty word
empty_more word e = record { more = []; none = refl; is = rw (append-nil word) e }

reads_space : (mark : ℕ) (word : List ℕ) → nat_eq mark 32 ≡ true → is_empty word ≡ true → reads_piece (record { mark = mark; word = word }) ≡ true
reads_space mark word m e = rw (m, e) refl

reads_param : (mark : ℕ) (word : List ℕ) → nat_eq mark 32 ≡ false → nat_eq mark 43 ≡ true → whole_param word ≡ true → reads_piece (record { mark = mark; word = word }) ≡ true
reads_param mark word a m e = rw (a, m, e) refl

reads_type : (mark : ℕ) (word : List ℕ) → nat_eq mark 32 ≡ false → nat_eq mark 43 ≡ false → nat_eq mark 58 ≡ true → is_id word ≡ true → reads_piece (record { mark = mark; word = word }) ≡ true
reads_type mark word a b m e = rw (a, b, m, e) refl

reads_pick : (mark : ℕ) (word : List ℕ) → nat_eq mark 32 ≡ false → nat_eq mark 43 ≡ false → nat_eq mark 58 ≡ false → nat_eq mark 37 ≡ true → is_key word ≡ true → reads_piece (record { mark = mark; word = word }) ≡ true
reads_pick mark word a b c m e = rw (a, b, c, m, e) refl

piece_more : (p : Piece) → begins_piece p ≡ true → CompletesPiece p
piece_more p b = elim (cases_Bool (nat_eq p.mark 32)) [
  | inl e ↦ let c : Completes is_empty p.word = empty_more p.word (rw e at b) in record { more = c.more; none = c.none; is = reads_space p.mark (p.word ++ c.more) e c.is }
  | inr e ↦ let b1 = rw e at b in elim (cases_Bool (nat_eq p.mark 43)) [
    | inl f ↦ let c : Completes whole_param p.word = param_more p.word (rw f at b1) in record { more = c.more; none = c.none; is = reads_param p.mark (p.word ++ c.more) e f c.is }
    | inr f ↦ let b2 = rw f at b1 in elim (cases_Bool (nat_eq p.mark 58)) [
      | inl g ↦ let c : Completes is_id p.word = id_more p.word (rw g at b2) in record { more = c.more; none = c.none; is = reads_type p.mark (p.word ++ c.more) e f g c.is }
      | inr g ↦ let b3 = rw g at b2 in elim (cases_Bool (nat_eq p.mark 37)) [
        | inl h ↦ let c : Completes (is_word_of is_key_byte) p.word = word_more is_key_byte refl p.word (rw h at b3) in record { more = c.more; none = c.none; is = reads_pick p.mark (p.word ++ c.more) e f g h c.is }
        | inr h ↦ let b4 = rw h at b3 in absurd (both_ways false refl b4)
      ]
    ]
  ]
]

-- ---- the last piece with more bytes

abbrev pub extend_last : List Piece → List ℕ → List Piece
extend_last [] more = []
extend_last (p ∷ []) more = longer p more ∷ []
extend_last (p ∷ q ∷ rest) more = p ∷ extend_last (q ∷ rest) more

abbrev pub extend : List ℕ → List Piece → List ℕ → PieceCut
extend head [] more = record { head = head ++ more; pieces = [] }
extend head (p ∷ rest) more = record { head = head; pieces = extend_last (p ∷ rest) more }

extend_byte : (b : ℕ) (head : List ℕ) (pieces : List Piece) (more : List ℕ) → cut_before b (extend head pieces more) ≡ extend (cut_before b (record { head = head; pieces = pieces })).head (cut_before b (record { head = head; pieces = pieces })).pieces more
extend_byte b head [] more = elim (cases_Bool (is_mark b)) [ inl e ↦ rw e refl | inr e ↦ rw e refl ]
extend_byte b head (p ∷ rest) more = elim (cases_Bool (is_mark b)) [ inl e ↦ rw e refl | inr e ↦ rw e refl ]

cut_more : (text more : List ℕ) → no_marks more → cut_at_marks (text ++ more) ≡ extend (cut_at_marks text).head (cut_at_marks text).pieces more
cut_more [] more n = ap cut_at_marks (sym (append-nil more)) ∙ cut_word more [] n ∙ rw (append-nil more) refl
cut_more (b ∷ text) more n = ap (cut_before b) (cut_more text more n) ∙ extend_byte b (cut_at_marks text).head (cut_at_marks text).pieces more

past_more : (text more : List ℕ) → no_marks more → past_spaces (text ++ more) ≡ past_spaces text ++ more
past_more [] [] n = refl
past_more [] (b ∷ more) n =
    let h = and_parts (not (is_mark b)) (list_all (λ c. not (is_mark c)) more) n in
    let a = or_parts (nat_eq b 32 || nat_eq b 43 || nat_eq b 58) (nat_eq b 37) (not-true (is_mark b) h.0) in
    let c = or_parts (nat_eq b 32 || nat_eq b 43) (nat_eq b 58) a.0 in
    let d = or_parts (nat_eq b 32) (nat_eq b 43) c.0 in
    rw d.0 refl
past_more (b ∷ text) more n = elim (cases_Bool (nat_eq b 32)) [
  | inl e ↦ rw e (past_more text more n)
  | inr e ↦ rw e refl
]

-- bytes that make the last piece whole
pub record CompletesPieces (pieces : List Piece) : Type 0 where
  pub more : List ℕ
  pub none : no_marks more
  pub items : ItemList
  pub is : read_pieces (extend_last pieces more) ≡ Some items

read_cons : (p : Piece) (rest : List Piece) (items more : ItemList) → read_pieces rest ≡ Some items → read_piece p items ≡ Some more → read_pieces (p ∷ rest) ≡ Some more
read_cons p rest items more a b = rw a b

pieces_more : (p : Piece) (rest : List Piece) → begins_pieces (p ∷ rest) ≡ true → CompletesPieces (p ∷ rest)
pieces_more p [] b =
    let c : CompletesPiece p = piece_more p b in
    let s = some_is (read_piece (longer p c.more) no_items) c.is in
    record { more = c.more; none = c.none; items = s.0; is = s.1 }
pieces_more p (q ∷ rest) b =
    let h = and_parts (reads_piece p) (begins_pieces (q ∷ rest)) b in
    let c : CompletesPieces (q ∷ rest) = pieces_more q rest h.1 in
    let s = some_is (read_piece p c.items) (reads_alike p c.items no_items ∙ h.0) in
    record { more = c.more; none = c.none; items = s.0; is = read_cons p (extend_last (q ∷ rest) c.more) c.items s.0 c.is s.1 }

-- ---- texts

goes_on : (bytes head : List ℕ) (pieces : List Piece) → cut_at_marks (past_spaces bytes) ≡ record { head = head; pieces = pieces } → begins_cut head pieces ≡ true → IsFront bytes
goes_on bytes head [] c b =
    let w : Completes is_name head = word_more is_name_byte refl head b in
    let k : cut_at_marks (past_spaces (bytes ++ w.more)) ≡ record { head = head ++ w.more; pieces = [] } = ap cut_at_marks (past_more bytes w.more w.none) ∙ cut_more (past_spaces bytes) w.more w.none ∙ ap (λ (x : PieceCut). extend x.head x.pieces w.more) c in
    record { more = w.more; source = head ++ w.more; params = []; steps = []; written = written_from_cut (bytes ++ w.more) (head ++ w.more) [] no_items k w.is refl }
goes_on bytes head (p ∷ rest) c b =
    let h = and_parts (is_name head) (begins_pieces (p ∷ rest)) b in
    let w : CompletesPieces (p ∷ rest) = pieces_more p rest h.1 in
    let k : cut_at_marks (past_spaces (bytes ++ w.more)) ≡ record { head = head; pieces = extend_last (p ∷ rest) w.more } = ap cut_at_marks (past_more bytes w.more w.none) ∙ cut_more (past_spaces bytes) w.more w.none ∙ ap (λ (x : PieceCut). extend x.head x.pieces w.more) c in
    record { more = w.more; source = head; params = w.items.params; steps = w.items.steps; written = written_from_cut (bytes ++ w.more) head (extend_last (p ∷ rest) w.more) w.items k h.0 w.is }

pub front_from_test : (bytes : List ℕ) → is_front bytes ≡ true → IsFront bytes
unfolding is_front
front_from_test bytes e = goes_on bytes (cut_at_marks (past_spaces bytes)).head (cut_at_marks (past_spaces bytes)).pieces refl e
