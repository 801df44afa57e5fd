-- The computed tokens of a text are its tokens.
use Rattle.std.proofs.Common.{◌≡◌, ℕ, zero, suc, Bool, true, false, List, [], ◌∷◌, ◌++◌, Option, Some, None, cond, refl, sym, ap, subst, inl, inr}
use Rattle.std.specs.Prelude.{nat_eq}
use Rattle.std.specs.Option.{option_map, option_and_then}
use Rattle.std.proofs.lemmas.Bool.{cases_Bool, eqb-true, eqb-false}
use Rattle.meaning_texts.specs.Classes.{is_name_byte}
use Rattle.meaning_texts.specs.Tests.{is_name, is_string_text}
use Rattle.meaning_texts.specs.Lines.{HasNoLf}
use Rattle.meaning_texts.proofs.Lemmas.{word_decides, string_decides}
use Rattle.meaning_graph.specs.Tokens.{Token, word, string, semicolon, comma, opening, closing, is_blank, begins_in_class, is_line_end, BeginsWith, a_word, a_string, a_semicolon, a_comma, an_opening, a_closing, Tokens, no_more, blank, comment, one}
use Rattle.meaning_graph.specs.Lexing.{past_gap, name_front, past_names, before_quote, behind_quote, Taken, taken, token_at}

-- ---- one token

names_whole : (text : List ℕ) → name_front text ++ past_names text ≡ text
names_whole [] = refl
names_whole (b ∷ rest) = elim (cases_Bool (is_name_byte b)) [
  | inl e ↦ rw e (ap (λ t. b ∷ t) (names_whole rest))
  | inr e ↦ rw e refl
]

names_stop : (text : List ℕ) → begins_in_class is_name_byte (past_names text) ≡ false
names_stop [] = refl
names_stop (b ∷ rest) = elim (cases_Bool (is_name_byte b)) [
  | inl e ↦ rw e (names_stop rest)
  | inr e ↦ rw e e
]

inside : {A : Type 0} (x y : A) → ◌≡◌ {A = Option A} (Some x) (Some y) → x ≡ y
inside x y e = cc

cond_some : {A : Type 0} (b : Bool) (o : Option A) (y : A) → cond b o None ≡ Some y → (b ≡ true) × (o ≡ Some y)
cond_some true o y e = (refl, e)
cond_some false o y e = let n : ⊥ = cc in absurd n

quote_whole : (text rest : List ℕ) → behind_quote text ≡ Some rest → before_quote text ++ 34 ∷ rest ≡ text
quote_whole [] rest e = let n : ⊥ = cc in absurd n
quote_whole (b ∷ text) rest e = elim (cases_Bool (nat_eq b 34)) [
  | inl t ↦ let h = rw t at e in let s : text ≡ rest = inside text rest h in rw (t, ← s) (ap (λ (c : ℕ). c ∷ text) (sym (eqb-true b 34 t)))
  | inr t ↦ let h = rw t at e in rw t (ap (λ x. b ∷ x) (quote_whole text rest h))
]

map_some : {A B : Type 0} (f : A → B) (o : Option A) (y : B) → option_map f o ≡ Some y → (x : A) × (o ≡ Some x) × (f x ≡ y)
map_some f None y e = let n : ⊥ = cc in absurd n
map_some f (Some x) y e = (x, refl, inside (f x) y e)

abbrev Begins : List ℕ → Taken → Type 0
Begins text k = BeginsWith text k.token k.rest

mark : (b c : ℕ) (t : Token) (rest : List ℕ) (k : Taken) → nat_eq b c ≡ true → BeginsWith (c ∷ rest) t rest → ◌≡◌ {A = Option Taken} (Some (taken t rest)) (Some k) → Begins (b ∷ rest) k
mark b c t rest k e w s = subst (Begins (b ∷ rest)) (inside (taken t rest) k s) (rw (eqb-true b c e) w)

string_begins : (b : ℕ) (rest left : List ℕ) → nat_eq b 34 ≡ true → is_string_text (before_quote rest) ≡ true → behind_quote rest ≡ Some left → BeginsWith (b ∷ rest) (string (before_quote rest)) left
string_begins b rest left q i e =
    let w : BeginsWith (34 ∷ (before_quote rest ++ 34 ∷ left)) (string (before_quote rest)) left = a_string (before_quote rest) left ((string_decides (before_quote rest)).0 i) in
    rw (eqb-true b 34 q) (subst (λ x. BeginsWith (34 ∷ x) (string (before_quote rest)) left) (quote_whole rest left e) w)

pub begins_from : (text : List ℕ) (k : Taken) → token_at text ≡ Some k → Begins text k
begins_from [] k e = let n : ⊥ = cc in absurd n
begins_from (b ∷ rest) k e = elim (cases_Bool (is_name_byte b)) [
  | inl t ↦
      let h = cond_some (is_name (b ∷ name_front rest)) (Some (taken (word (b ∷ name_front rest)) (past_names rest))) k (rw t at e) in
      let w : BeginsWith ((b ∷ name_front rest) ++ past_names rest) (word (b ∷ name_front rest)) (past_names rest) = a_word (b ∷ name_front rest) (past_names rest) ((word_decides is_name_byte (b ∷ name_front rest)).0 h.0) (names_stop rest) in
      let whole : b ∷ (name_front rest ++ past_names rest) ≡ b ∷ rest = ap (λ x. b ∷ x) (names_whole rest) in
      subst (Begins (b ∷ rest)) (inside (taken (word (b ∷ name_front rest)) (past_names rest)) k h.1) (subst (λ x. BeginsWith x (word (b ∷ name_front rest)) (past_names rest)) whole w)
  | inr t ↦ let e1 = rw t at e in elim (cases_Bool (nat_eq b 34)) [
    | inl q ↦
        let h = cond_some (is_string_text (before_quote rest)) (option_map (taken (string (before_quote rest))) (behind_quote rest)) k (rw q at e1) in
        let m = map_some (taken (string (before_quote rest))) (behind_quote rest) k h.1 in
        subst (Begins (b ∷ rest)) m.2 (string_begins b rest m.0 q h.0 m.1)
    | inr q ↦ let e2 = rw q at e1 in elim (cases_Bool (nat_eq b 59)) [
      | inl m ↦ mark b 59 semicolon rest k m (a_semicolon rest) (rw m at e2)
      | inr m ↦ let e3 = rw m at e2 in elim (cases_Bool (nat_eq b 44)) [
        | inl m ↦ mark b 44 comma rest k m (a_comma rest) (rw m at e3)
        | inr m ↦ let e4 = rw m at e3 in elim (cases_Bool (nat_eq b 40)) [
          | inl m ↦ mark b 40 opening rest k m (an_opening rest) (rw m at e4)
          | inr m ↦ let e5 = rw m at e4 in elim (cases_Bool (nat_eq b 41)) [
            | inl m ↦ mark b 41 closing rest k m (a_closing rest) (rw m at e5)
            | inr m ↦ let e6 = rw m at e5 in let n : ⊥ = cc in absurd n
          ]
        ]
      ]
    ]
  ]
]

-- ---- gaps

-- The text is what is left of a comment, and after it come these tokens.
pub record InComment (text : List ℕ) (tokens : List Token) (rest : List ℕ) : Type 0 where
  pub words : List ℕ
  pub behind : List ℕ
  pub is : text ≡ words ++ behind
  pub no_lf : HasNoLf words
  pub line_end : is_line_end behind ≡ true
  pub read : Tokens behind tokens rest

abbrev Reads : Bool → List ℕ → List Token → List ℕ → Type 0
Reads false text tokens rest = Tokens text tokens rest
Reads true text tokens rest = InComment text tokens rest

comment_read : (b : ℕ) (text : List ℕ) (tokens : List Token) (rest : List ℕ) → b ≡ 35 → InComment text tokens rest → Tokens (b ∷ text) tokens rest
comment_read b text tokens rest e c = rw (e, c.is) (comment c.words c.behind tokens rest c.no_lf c.line_end c.read)

comment_more : (b : ℕ) (text : List ℕ) (tokens : List Token) (rest : List ℕ) → (b ≡ 10 → ⊥) → InComment text tokens rest → InComment (b ∷ text) tokens rest
comment_more b text tokens rest n c = record { words = b ∷ c.words; behind = c.behind; is = ap (λ x. b ∷ x) c.is; no_lf = (n, c.no_lf); line_end = c.line_end; read = c.read }

pub gap_read : (inside : Bool) (text : List ℕ) (tokens : List Token) (rest : List ℕ) → Tokens (past_gap inside text) tokens rest → Reads inside text tokens rest
gap_read false [] tokens rest d = d
gap_read true [] tokens rest d = record { words = []; behind = []; is = refl; no_lf = tt; line_end = refl; read = d }
gap_read false (b ∷ text) tokens rest d = elim (cases_Bool (is_blank b)) [
  | inl e ↦ blank b text tokens rest e (gap_read false text tokens rest (rw e at d))
  | inr e ↦ let d1 = rw e at d in elim (cases_Bool (nat_eq b 35)) [
    | inl h ↦ comment_read b text tokens rest (eqb-true b 35 h) (gap_read true text tokens rest (rw h at d1))
    | inr h ↦ rw h at d1
  ]
]
gap_read true (b ∷ text) tokens rest d = elim (cases_Bool (nat_eq b 10)) [
  | inl e ↦
      let t : Tokens text tokens rest = gap_read false text tokens rest (rw e at d) in
      let blank_is : is_blank b ≡ true = rw (eqb-true b 10 e) refl in
      record { words = []; behind = b ∷ text; is = refl; no_lf = tt; line_end = e; read = blank b text tokens rest blank_is t }
  | inr e ↦
      let c : InComment text tokens rest = gap_read true text tokens rest (rw e at d) in
      comment_more b text tokens rest (eqb-false b 10 e) c
]

-- ---- so many tokens

-- so many tokens of a text, and what is left
pub record Read : Type 0 where
  pub tokens : List Token
  pub rest : List ℕ

abbrev read_more : Token → Read → Read
read_more t r = record { tokens = t ∷ r.tokens; rest = r.rest }

abbrev pub read_tokens : ℕ → List ℕ → Option Read
read_tokens zero text = Some (record { tokens = []; rest = past_gap false text })
read_tokens (suc n) text = option_and_then (λ (k : Taken). option_map (read_more k.token) (read_tokens n k.rest)) (token_at (past_gap false text))

and_then_some : {A B : Type 0} (f : A → Option B) (o : Option A) (y : B) → option_and_then f o ≡ Some y → (x : A) × (o ≡ Some x) × (f x ≡ Some y)
and_then_some f None y e = let n : ⊥ = cc in absurd n
and_then_some f (Some x) y e = (x, refl, e)

pub tokens_read : (n : ℕ) (text : List ℕ) (r : Read) → read_tokens n text ≡ Some r → Tokens text r.tokens r.rest
tokens_read zero text r e = gap_read false text r.tokens r.rest (subst (λ (x : Read). Tokens (past_gap false text) x.tokens x.rest) (inside _ r e) (no_more (past_gap false text)))
tokens_read (suc n) text r e =
    let a = and_then_some (λ (k : Taken). option_map (read_more k.token) (read_tokens n k.rest)) (token_at (past_gap false text)) r e in
    let k : Taken = a.0 in
    let m = map_some (read_more k.token) (read_tokens n k.rest) r a.2 in
    let inner : Tokens k.rest m.0.tokens m.0.rest = tokens_read n k.rest m.0 m.1 in
    let b : BeginsWith (past_gap false text) k.token k.rest = begins_from (past_gap false text) k a.1 in
    gap_read false text r.tokens r.rest (subst (λ (x : Read). Tokens (past_gap false text) x.tokens x.rest) m.2 (one (past_gap false text) k.token k.rest m.0.tokens m.0.rest b inner))
