-- A front of an expression passes the test of fronts.
use Rattle.std.proofs.Common.{◌≡◌, ℕ, ◌+◌, ◌≤◌, Bool, true, false, ◌&&◌, ◌||◌, List, [], ◌∷◌, ◌++◌, length, Some, None, cond, refl, sym, ap, ◌∙◌, subst, inl, inr, ◌⊎◌, length-append, arith}
use Rattle.std.specs.Prelude.{nat_eq, nat_le, nat_lt, is_some}
use Rattle.std.specs.List.{list_all}
use Rattle.std.proofs.lemmas.Bool.{cases_Bool, both_ways, and_parts, and_from, or_parts, leb-true, le-leb}
use Rattle.std.proofs.lemmas.List.Folds.{list_all-append}
use Rattle.meaning_texts.specs.Classes.{is_name_byte, is_key_byte, is_value_byte, begins_with_letter}
use Rattle.meaning_texts.specs.Limits.{word_limit}
use Rattle.meaning_texts.specs.Tests.{is_word_of, is_name, is_id, is_key, is_param_value}
use Rattle.meaning_texts.specs.Expressions.{IsFront}
use Rattle.meaning_texts.specs.Reading.{is_mark, Piece, PieceCut, cut_at_marks, cut_before, ItemList, name_part, value_part, read_piece, read_pieces, past_spaces}
use Rattle.meaning_texts.specs.Lists.{is_empty}
use Rattle.meaning_texts.specs.Fronts.{begins_word, begins_id, has_equals, begins_param, begins_piece, no_items, reads_piece, begins_pieces, begins_cut, is_front}
use Rattle.meaning_texts.proofs.Readings.{and_then_some, CutOf, written_cut}
use Rattle.meaning_texts.proofs.GoOn.{reads_alike}

-- ---- words

front_all : (class : ℕ → Bool) (word more : List ℕ) → list_all class (word ++ more) ≡ true → list_all class word ≡ true
front_all class word more e = let h = and_parts (list_all class word) (list_all class more) (sym (list_all-append class word more) ∙ e) in h.0

front_short : (word more : List ℕ) → nat_le (length (word ++ more)) word_limit ≡ true → nat_le (length word) word_limit ≡ true
front_short word more e = let l : length (word ++ more) ≤ word_limit = leb-true (length (word ++ more)) word_limit e in let s : length (word ++ more) ≡ length word + length more = length-append word more in le-leb (length word) word_limit (omega arith)

front_word : (class : ℕ → Bool) (word more : List ℕ) → is_word_of class (word ++ more) ≡ true → begins_word class word ≡ true
front_word class word more e =
    let h = and_parts (nat_lt 0 (length (word ++ more)) && nat_le (length (word ++ more)) word_limit) (list_all class (word ++ more)) e in
    let k = and_parts (nat_lt 0 (length (word ++ more))) (nat_le (length (word ++ more)) word_limit) h.0 in
    and_from _ _ (front_short word more k.1) (front_all class word more h.1)

front_id : (word more : List ℕ) → is_id (word ++ more) ≡ true → begins_id word ≡ true
front_id word more e =
    let h = and_parts (is_key (word ++ more)) (begins_with_letter (word ++ more)) e in
    and_from _ _ (front_word is_key_byte word more h.0) (letter word h.1)
  where
    letter : (word : List ℕ) → begins_with_letter (word ++ more) ≡ true → (is_empty word || begins_with_letter word) ≡ true
    letter [] e = refl
    letter (b ∷ word) e = e

front_empty : (word more : List ℕ) → is_empty (word ++ more) ≡ true → is_empty word ≡ true
front_empty [] more e = refl
front_empty (b ∷ word) more e = e

-- ---- a name and a value

equals_name : (word more : List ℕ) → has_equals word ≡ true → name_part (word ++ more) ≡ name_part word
equals_name [] more e = absurd (both_ways false refl e)
equals_name (b ∷ word) more e = elim (cases_Bool (nat_eq b 61)) [
  | inl t ↦ rw t refl
  | inr t ↦ rw t (ap (λ x. b ∷ x) (equals_name word more (rw t at e)))
]

equals_value : (word more : List ℕ) → has_equals word ≡ true → value_part (word ++ more) ≡ value_part word ++ more
equals_value [] more e = absurd (both_ways false refl e)
equals_value (b ∷ word) more e = elim (cases_Bool (nat_eq b 61)) [
  | inl t ↦ rw t refl
  | inr t ↦ rw t (equals_value word more (rw t at e))
]

unequal_name : (word more : List ℕ) → has_equals word ≡ false → name_part (word ++ more) ≡ word ++ name_part more
unequal_name [] more e = refl
unequal_name (b ∷ word) more e = let h = or_parts (nat_eq b 61) (has_equals word) e in rw h.0 (ap (λ x. b ∷ x) (unequal_name word more h.1))

front_param : (word more : List ℕ) → (is_id (name_part (word ++ more)) && is_param_value (value_part (word ++ more))) ≡ true → begins_param word ≡ true
front_param word more e = elim (cases_Bool (has_equals word)) [
  | inl t ↦ with_equals word more t e
  | inr t ↦ without word more t e
]
  where
    with_equals : (word more : List ℕ) → has_equals word ≡ true → (is_id (name_part (word ++ more)) && is_param_value (value_part (word ++ more))) ≡ true → begins_param word ≡ true
    with_equals word more t e =
        let h = and_parts (is_id (name_part (word ++ more))) (is_param_value (value_part (word ++ more))) e in
        let n : is_id (name_part word) ≡ true = subst (λ x. is_id x ≡ true) (equals_name word more t) h.0 in
        let v : is_param_value (value_part word ++ more) ≡ true = subst (λ x. is_param_value x ≡ true) (equals_value word more t) h.1 in
        rw t (and_from _ _ n (front_all is_value_byte (value_part word) more v))

    without : (word more : List ℕ) → has_equals word ≡ false → (is_id (name_part (word ++ more)) && is_param_value (value_part (word ++ more))) ≡ true → begins_param word ≡ true
    without word more t e =
        let h = and_parts (is_id (name_part (word ++ more))) (is_param_value (value_part (word ++ more))) e in
        let n : is_id (word ++ name_part more) ≡ true = subst (λ x. is_id x ≡ true) (unequal_name word more t) h.0 in
        rw t (front_id word (name_part more) n)

-- ---- pieces

some_cond : {A : Type 0} (b : Bool) (x : A) → is_some (cond b (Some x) None) ≡ true → b ≡ true
some_cond true x e = refl
some_cond false x e = e

front_piece : (mark : ℕ) (word more : List ℕ) → reads_piece (record { mark = mark; word = word ++ more }) ≡ true → begins_piece (record { mark = mark; word = word }) ≡ true
front_piece mark word more r = elim (cases_Bool (nat_eq mark 32)) [
  | inl e ↦ rw e (front_empty word more (some_cond _ _ (rw e at r)))
  | inr e ↦ let r1 = rw e at r in elim (cases_Bool (nat_eq mark 43)) [
    | inl f ↦ rw (e, f) (front_param word more (some_cond _ _ (rw f at r1)))
    | inr f ↦ let r2 = rw f at r1 in elim (cases_Bool (nat_eq mark 58)) [
      | inl g ↦ rw (e, f, g) (front_id word more (some_cond _ _ (rw g at r2)))
      | inr g ↦ let r3 = rw g at r2 in elim (cases_Bool (nat_eq mark 37)) [
        | inl h ↦ rw (e, f, g, h) (front_word is_key_byte word more (some_cond _ _ (rw h at r3)))
        | inr h ↦ absurd (both_ways false refl (rw h at r3))
      ]
    ]
  ]
]

-- ---- the cut of a front

abbrev Goes : List ℕ → List ℕ → Type 0
Goes word whole = (more : List ℕ) × (whole ≡ word ++ more)

-- the pieces of the whole begin with these, the last of which may go on
abbrev PiecesGo : Piece → List Piece → List Piece → Type 0
PiecesGo p ps [] = ⊥
PiecesGo p [] (q ∷ qs) = (q.mark ≡ p.mark) × Goes p.word q.word
PiecesGo p (r ∷ ps) (q ∷ qs) = (q ≡ p) × PiecesGo r ps qs

abbrev CutGoes : List ℕ → List Piece → List ℕ → List Piece → Type 0
CutGoes head [] whole qs = Goes head whole
CutGoes head (p ∷ ps) whole qs = (whole ≡ head) × PiecesGo p ps qs

same_piece : (p q : Piece) → p.mark ≡ q.mark → p.word ≡ q.word → p ≡ q
same_piece p q m w = let e : ◌≡◌ {A = Piece} (record { mark = p.mark; word = p.word }) (record { mark = q.mark; word = q.word }) = cc in e

byte_goes : (b : ℕ) (head : List ℕ) (ps : List Piece) (whole : List ℕ) (qs : List Piece) → CutGoes head ps whole qs
    → CutGoes (cut_before b (record { head = head; pieces = ps })).head (cut_before b (record { head = head; pieces = ps })).pieces (cut_before b (record { head = whole; pieces = qs })).head (cut_before b (record { head = whole; pieces = qs })).pieces
byte_goes b head [] whole qs g = elim (cases_Bool (is_mark b)) [
  | inl e ↦ rw e (refl, (refl, g))
  | inr e ↦ rw e (g.0, ap (λ x. b ∷ x) g.1)
]
byte_goes b head (p ∷ ps) whole qs g = elim (cases_Bool (is_mark b)) [
  | inl e ↦ rw e (refl, (ap (λ (w : List ℕ). record { mark = b; word = w }) g.0, g.1))
  | inr e ↦ rw e (ap (λ x. b ∷ x) g.0, g.1)
]

cut_goes : (text more : List ℕ) → CutGoes (cut_at_marks text).head (cut_at_marks text).pieces (cut_at_marks (text ++ more)).head (cut_at_marks (text ++ more)).pieces
cut_goes [] more = ((cut_at_marks more).head, refl)
cut_goes (b ∷ text) more = byte_goes b (cut_at_marks text).head (cut_at_marks text).pieces (cut_at_marks (text ++ more)).head (cut_at_marks (text ++ more)).pieces (cut_goes text more)

-- ---- a cut that reads

piece_is_some : (p : Piece) (items more : ItemList) → read_piece p items ≡ Some more → reads_piece p ≡ true
piece_is_some p items more e = reads_alike p no_items items ∙ ap is_some e

pieces_begin : (p : Piece) (ps qs : List Piece) (items : ItemList) → PiecesGo p ps qs → read_pieces qs ≡ Some items → begins_pieces (p ∷ ps) ≡ true
pieces_begin p ps [] items g r = absurd g
pieces_begin p [] (q ∷ qs) items g r =
    let h = and_then_some (read_piece q) (read_pieces qs) items r in
    let same : q ≡ record { mark = p.mark; word = p.word ++ g.1.0 } = same_piece q (record { mark = p.mark; word = p.word ++ g.1.0 }) g.0 g.1.1 in
    front_piece p.mark p.word g.1.0 (subst (λ x. reads_piece x ≡ true) same (piece_is_some q h.0 items h.2))
pieces_begin p (r ∷ ps) (q ∷ qs) items g e =
    let h = and_then_some (read_piece q) (read_pieces qs) items e in
    and_from _ _ (subst (λ x. reads_piece x ≡ true) g.0 (piece_is_some q h.0 items h.2)) (pieces_begin r ps qs h.0 g.1 h.1)

cut_begins : (head : List ℕ) (ps : List Piece) (whole : List ℕ) (qs : List Piece) (items : ItemList) → CutGoes head ps whole qs → is_name whole ≡ true → read_pieces qs ≡ Some items → begins_cut head ps ≡ true
cut_begins head [] whole qs items g n r = front_word is_name_byte head g.0 (subst (λ x. is_name x ≡ true) g.1 n)
cut_begins head (p ∷ ps) whole qs items g n r = and_from _ _ (subst (λ x. is_name x ≡ true) g.0 n) (pieces_begin p ps qs items g.1 r)

-- ---- texts

past_front : (text : List ℕ) → (past_spaces text ≡ []) ⊎ ((more : List ℕ) → past_spaces (text ++ more) ≡ past_spaces text ++ more)
past_front [] = inl refl
past_front (b ∷ text) = elim (cases_Bool (nat_eq b 32)) [
  | inl e ↦ rw e (past_front text)
  | inr e ↦ inr (λ more. rw e refl)
]

pub test_from_front : (bytes : List ℕ) → IsFront bytes → is_front bytes ≡ true
unfolding is_front
test_from_front bytes f = elim (past_front bytes) [
  | inl e ↦ rw e refl
  | inr p ↦
      let c : CutOf (bytes ++ f.more) f.source f.params f.steps = written_cut (bytes ++ f.more) f.source f.params f.steps f.written in
      let k : cut_at_marks (past_spaces bytes ++ f.more) ≡ record { head = f.source; pieces = c.pieces } = ap cut_at_marks (sym (p f.more)) ∙ c.is in
      let g : CutGoes (cut_at_marks (past_spaces bytes)).head (cut_at_marks (past_spaces bytes)).pieces f.source c.pieces = subst (λ (x : PieceCut). CutGoes (cut_at_marks (past_spaces bytes)).head (cut_at_marks (past_spaces bytes)).pieces x.head x.pieces) k (cut_goes (past_spaces bytes) f.more) in
      cut_begins (cut_at_marks (past_spaces bytes)).head (cut_at_marks (past_spaces bytes)).pieces f.source c.pieces (record { params = f.params; steps = f.steps }) g c.name c.items
]
