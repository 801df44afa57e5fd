-- The computed expression of a text is the one that it is related to, and there is one exactly where the text is an expression.
use Rattle.std.proofs.Common.{◌≡◌, ℕ, suc, zero, Bool, true, false, ◌&&◌, List, [], ◌∷◌, ◌++◌, length, replicate, Option, Some, None, cond, refl, sym, ap, ◌∙◌, subst, inl, inr, ◌⊎◌, append_assoc, append-nil}
use Rattle.std.specs.Prelude.{nat_eq, nat_le}
use Rattle.std.specs.List.{flat_map}
use Rattle.std.specs.Option.{option_and_then, option_map}
use Rattle.std.proofs.lemmas.Bool.{cases_Bool, both_ways, and_parts, eqb-true, leb-true, le-leb}
use Rattle.object_values.specs.declared.nodes.ParamValue.{ParamValue}
use Rattle.object_values.specs.declared.expressions.ExprStep.{ExprStep}
use Rattle.object_values.specs.declared.expressions.ExprStep.TheVariants.{To, Pick}
use Rattle.object_values.specs.declared.expressions.Expression.{Expression}
use Rattle.meaning_texts.specs.Classes.{is_name_byte, is_key_byte}
use Rattle.meaning_texts.specs.Limits.{expression_limit}
use Rattle.meaning_texts.specs.Tests.{is_name, is_id, is_param_value}
use Rattle.meaning_texts.specs.Expressions.{Items, no_more, space, param_value, param_alone, type_step, pick_step, SpellsExpression, ExpressionText}
use Rattle.meaning_texts.specs.Reading.{Piece, PieceCut, cut_at_marks, ItemList, put_param, put_step, name_part, value_part, read_piece, read_pieces, past_spaces, expression_with, read_cut, expression_of, kept_params}
use Rattle.meaning_texts.specs.Lists.{is_empty}
use Rattle.meaning_texts.proofs.Words.{word_decides, id_decides, value_decides}
use Rattle.meaning_texts.proofs.Params.{kept_are_kept, one_kept}
use Rattle.meaning_texts.proofs.Pieces.{cut_word, cut_text, piece_text, name_no_marks, items_with, ReadsAs, items_read}

-- ---- what a computed answer tells

pub and_then_some : {A B : Type 0} (f : A → Option B) (o : Option A) (y : B) → option_and_then f o ≡ Some y → (x : A) × (o ≡ Some x) × (f x ≡ Some y)
and_then_some f None y e = let n : ⊥ = cc in absurd n
and_then_some f (Some x) y e = (x, refl, e)

map_some : {A B : Type 0} (f : A → B) (o : Option A) (y : B) → option_map f o ≡ Some y → (x : A) × (o ≡ Some x) × (f x ≡ y)
map_some f None y e = let n : ⊥ = cc in absurd n
map_some f (Some x) y e = (x, refl, cc)

pub cond_some : {A : Type 0} (b : Bool) (o : Option A) (y : A) → cond b o None ≡ Some y → (b ≡ true) × (o ≡ Some y)
cond_some true o y e = (refl, e)
cond_some false o y e = let n : ⊥ = cc in absurd n

pub none_not_some : {A : Type 0} (y : A) → ◌≡◌ {A = Option A} None (Some y) → ⊥
none_not_some y e = cc

inside_some : {A : Type 0} (x y : A) → ◌≡◌ {A = Option A} (Some x) (Some y) → x ≡ y
inside_some x y e = cc

-- ---- pieces that read are items

pub empty_word : (word : List ℕ) → is_empty word ≡ true → word ≡ []
empty_word [] e = refl
empty_word (b ∷ rest) e = absurd (both_ways false refl e)

-- a word is a name, `=` and a value, or a name alone
parts_of : (word : List ℕ) → (word ≡ name_part word ++ 61 ∷ value_part word) ⊎ ((word ≡ name_part word) × (value_part word ≡ []))
parts_of [] = inr (refl, refl)
parts_of (b ∷ rest) = elim (cases_Bool (nat_eq b 61)) [
  | inl e ↦ inl (rw e (ap (λ c. c ∷ rest) (eqb-true b 61 e)))
  | inr e ↦ elim (parts_of rest) [
    | inl h ↦ inl (rw e (ap (λ t. b ∷ t) h))
    | inr h ↦ inr (rw e (ap (λ t. b ∷ t) h.0, h.1))
  ]
]

param_item : (word rest : List ℕ) (items more : ItemList) → cond (is_id (name_part word) && is_param_value (value_part word)) (Some (put_param (record { param = name_part word; value = value_part word }) items)) None ≡ Some more
    → Items rest items.params items.steps → Items (43 ∷ (word ++ rest)) more.params more.steps
param_item word rest items more e i =
    let h = cond_some _ _ more e in
    let k = and_parts _ _ h.0 in
    let m : put_param (record { param = name_part word; value = value_part word }) items ≡ more = inside_some _ _ h.1 in
    elim (parts_of word) [
      | inl s ↦
          let r : Items (43 ∷ (name_part word ++ 61 ∷ (value_part word ++ rest))) (record { param = name_part word; value = value_part word } ∷ items.params) items.steps
          = param_value (name_part word) (value_part word) rest items.params items.steps ((id_decides _).0 k.0) ((value_decides _).0 k.1) i in
          let t : word ++ rest ≡ name_part word ++ 61 ∷ (value_part word ++ rest) = ap (λ x. x ++ rest) s ∙ append_assoc (name_part word) (61 ∷ value_part word) rest in
          rw (t, ← m) r
      | inr s ↦
          let r : Items (43 ∷ (name_part word ++ rest)) (record { param = name_part word; value = [] } ∷ items.params) items.steps
          = param_alone (name_part word) rest items.params items.steps ((id_decides _).0 k.0) i in
          let t : word ++ rest ≡ name_part word ++ rest = ap (λ x. x ++ rest) s.0 in
          rw (t, ← m, s.1) r
    ]

piece_item : (mark : ℕ) (word rest : List ℕ) (items more : ItemList) → read_piece (record { mark = mark; word = word }) items ≡ Some more → Items rest items.params items.steps → Items (mark ∷ (word ++ rest)) more.params more.steps
piece_item mark word rest items more e i = elim (cases_Bool (nat_eq mark 32)) [
  | inl m ↦ let h = cond_some _ _ more (rw m at e) in let q : items ≡ more = inside_some _ _ h.1 in rw (eqb-true mark 32 m, empty_word word h.0, ← q) (space rest items.params items.steps i)
  | inr m ↦ let e1 = rw m at e in elim (cases_Bool (nat_eq mark 43)) [
    | inl m ↦ rw (eqb-true mark 43 m) (param_item word rest items more (rw m at e1) i)
    | inr m ↦ let e2 = rw m at e1 in elim (cases_Bool (nat_eq mark 58)) [
      | inl m ↦ let h = cond_some _ _ more (rw m at e2) in let q : put_step (To word) items ≡ more = inside_some _ _ h.1 in rw (eqb-true mark 58 m, ← q) (type_step word rest items.params items.steps ((id_decides word).0 h.0) i)
      | inr m ↦ let e3 = rw m at e2 in elim (cases_Bool (nat_eq mark 37)) [
        | inl m ↦ let h = cond_some _ _ more (rw m at e3) in let q : put_step (Pick word) items ≡ more = inside_some _ _ h.1 in rw (eqb-true mark 37 m, ← q) (pick_step word rest items.params items.steps ((word_decides is_key_byte word).0 h.0) i)
        | inr m ↦ absurd (none_not_some more (rw m at e3))
      ]
    ]
  ]
]

pieces_items : (pieces : List Piece) (items : ItemList) → read_pieces pieces ≡ Some items → Items (flat_map piece_text pieces) items.params items.steps
pieces_items [] items e = let q : items_with [] [] ≡ items = inside_some _ _ e in rw (← q) no_more
pieces_items (p ∷ pieces) items e =
    let h = and_then_some (read_piece p) (read_pieces pieces) items e in
    piece_item p.mark p.word (flat_map piece_text pieces) h.0 items h.2 (pieces_items pieces h.0 h.1)

-- ---- spaces

spaces_of : List ℕ → ℕ
spaces_of [] = 0
spaces_of (b ∷ rest) = cond (nat_eq b 32) (suc (spaces_of rest)) 0

spaces_text : (text : List ℕ) → text ≡ replicate (spaces_of text) 32 ++ past_spaces text
unfolding spaces_of
spaces_text [] = refl
spaces_text (b ∷ rest) = elim (cases_Bool (nat_eq b 32)) [
  | inl e ↦ rw (e, eqb-true b 32 e) (ap (λ t. 32 ∷ t) (spaces_text rest))
  | inr e ↦ rw e refl
]

not_a_space : (b : ℕ) → is_name_byte b ≡ true → nat_eq b 32 ≡ false
not_a_space b e = elim (cases_Bool (nat_eq b 32)) [
  | inl t ↦ let f : is_name_byte b ≡ false = rw (eqb-true b 32 t) refl in absurd (both_ways _ f e)
  | inr f ↦ f
]

past_none : (name rest : List ℕ) → is_name name ≡ true → past_spaces (name ++ rest) ≡ name ++ rest
past_none [] rest e = absurd (both_ways false refl e)
past_none (b ∷ name) rest e = let h = and_parts _ _ e in let k = and_parts (is_name_byte b) _ h.1 in rw (not_a_space b k.0) refl

past_all : (n : ℕ) (rest : List ℕ) → past_spaces (replicate n 32 ++ rest) ≡ past_spaces rest
past_all zero rest = refl
past_all (suc n) rest = past_all n rest

-- ---- texts

-- a text of the grammar is cut into its name and pieces that read as its items
pub record CutOf (text source : List ℕ) (ps : List ParamValue) (ss : List ExprStep) : Type 0 where
  pub name : is_name source ≡ true
  pub pieces : List Piece
  pub is : cut_at_marks (past_spaces text) ≡ record { head = source; pieces = pieces }
  pub items : read_pieces pieces ≡ Some (items_with ps ss)

pub written_cut : (text source : List ℕ) (ps : List ParamValue) (ss : List ExprStep) → SpellsExpression text source ps ss → CutOf text source ps ss
written_cut text source ps ss w =
    let n : is_name source ≡ true = (word_decides is_name_byte source).1 w.name in
    let r : ReadsAs w.behind ps ss = items_read w.behind ps ss w.items in
    let start : past_spaces text ≡ source ++ w.behind = ap past_spaces w.is ∙ past_all w.spaces (source ++ w.behind) ∙ past_none source w.behind n in
    let c : cut_at_marks (source ++ w.behind) ≡ record { head = source; pieces = (cut_at_marks w.behind).pieces } = rw (cut_word source w.behind (name_no_marks source w.name), r.head, append-nil source) refl in
    record { name = n; pieces = (cut_at_marks w.behind).pieces; is = ap cut_at_marks start ∙ c; items = r.items }

same_expression : (e : Expression) (ps : List ParamValue) → e.params ≡ ps → record { source = e.source; params = ps; steps = e.steps } ≡ e
same_expression e ps k = let q : ◌≡◌ {A = Expression} (record { source = e.source; params = ps; steps = e.steps }) (record { source = e.source; params = e.params; steps = e.steps }) = cc in q

pub reads : (text : List ℕ) (e : Expression) → ExpressionText text e → expression_of text ≡ Some e
unfolding expression_of
reads text e t =
    let c : CutOf text e.source t.params e.steps = written_cut text e.source t.params e.steps t.written in
    rw (le-leb (length text) expression_limit t.short, c.is, c.name, c.items) (ap (λ x. Some x) (same_expression e (kept_params t.params) (one_kept t.params e.params t.kept)))

-- a text whose pieces read is of the grammar
pub written_from_cut : (text head : List ℕ) (pieces : List Piece) (items : ItemList) → cut_at_marks (past_spaces text) ≡ record { head = head; pieces = pieces } → is_name head ≡ true → read_pieces pieces ≡ Some items → SpellsExpression text head items.params items.steps
written_from_cut text head pieces items c n r =
    let whole : past_spaces text ≡ head ++ flat_map piece_text pieces = sym (cut_text (past_spaces text)) ∙ ap (λ (x : PieceCut). x.head ++ flat_map piece_text x.pieces) c in
    record {
      spaces = spaces_of text;
      behind = flat_map piece_text pieces;
      is = spaces_text text ∙ ap (λ rest. replicate (spaces_of text) 32 ++ rest) whole;
      name = (word_decides is_name_byte head).0 n;
      items = pieces_items pieces items r;
    }

pub is_read : (text : List ℕ) (e : Expression) → expression_of text ≡ Some e → ExpressionText text e
unfolding expression_of
is_read text e t =
    let c : PieceCut = cut_at_marks (past_spaces text) in
    let a = cond_some (nat_le (length text) expression_limit) (read_cut c) e t in
    let b = cond_some (is_name c.head) (option_map (expression_with c.head) (read_pieces c.pieces)) e a.1 in
    let m = map_some (expression_with c.head) (read_pieces c.pieces) e b.1 in
    let items : ItemList = m.0 in
    let w : SpellsExpression text c.head items.params items.steps = written_from_cut text c.head c.pieces items refl b.0 m.1 in
    let r : ExpressionText text (expression_with c.head items) = record { params = items.params; written = w; kept = kept_are_kept items.params; short = leb-true _ _ a.0 } in
    subst (ExpressionText text) m.2 r
