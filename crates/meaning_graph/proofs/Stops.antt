-- Two readings of one text: they give the same tokens, or the one goes on where the other stops.
use Rattle.std.proofs.Common.{◌≡◌, ℕ, true, false, ◌||◌, List, [], ◌∷◌, ◌++◌, refl, sym, ap₂, ◌∙◌, subst, inl, inr, ◌⊎◌}
use Rattle.std.specs.Prelude.{nat_eq}
use Rattle.std.proofs.lemmas.Bool.{or_parts, not-true, ne_eqb, eqb-true}
use Rattle.meaning_texts.specs.Lines.{HasNoLf}
use Rattle.meaning_graph.specs.Tokens.{Token, is_blank, is_line_end, BeginsWith, Tokens, no_more, blank, comment, one, is_past_gap}
use Rattle.meaning_graph.specs.Lexing.{past_gap}
use Rattle.meaning_graph.proofs.Tokens.{SameToken, one_token, begins_told, begins_past_gap}

-- ---- gaps

-- where no gap begins, none is passed over
pub no_gap : (text : List ℕ) → is_past_gap text ≡ true → past_gap false text ≡ text
no_gap [] e = refl
no_gap (b ∷ rest) e = let h = or_parts (is_blank b) (nat_eq b 35) (not-true (is_blank b || nat_eq b 35) e) in rw (h.0, h.1) refl

past_blank : (b : ℕ) (text : List ℕ) → is_blank b ≡ true → past_gap false (b ∷ text) ≡ past_gap false text
past_blank b text e = rw e refl

past_words : (words text : List ℕ) → HasNoLf words → past_gap true (words ++ text) ≡ past_gap true text
past_words [] text n = refl
past_words (b ∷ words) text n = rw (ne_eqb b 10 n.0) (past_words words text n.1)

past_end : (text : List ℕ) → is_line_end text ≡ true → past_gap true text ≡ past_gap false text
past_end [] e = refl
past_end (b ∷ text) e = rw (eqb-true b 10 e) refl

past_comment : (words text : List ℕ) → HasNoLf words → is_line_end text ≡ true → past_gap false (35 ∷ (words ++ text)) ≡ past_gap false text
past_comment words text n e = past_words words text n ∙ past_end text e

-- ---- the first token of a reading

-- after its gap the text is the rest, or it begins with the first token
abbrev pub Split : List ℕ → List Token → List ℕ → Type 0
Split text [] rest = past_gap false text ≡ rest
Split text (t ∷ tokens) rest = (left : List ℕ) × BeginsWith (past_gap false text) t left × Tokens left tokens rest

split_gap : (text other : List ℕ) (tokens : List Token) (rest : List ℕ) → past_gap false text ≡ past_gap false other → Split other tokens rest → Split text tokens rest
split_gap text other [] rest e s = e ∙ s
split_gap text other (t ∷ tokens) rest e s = (s.0, subst (λ x. BeginsWith x t s.0) (sym e) s.1, s.2)

pub split_told : (text : List ℕ) (tokens : List Token) (rest : List ℕ) → Tokens text tokens rest → is_past_gap rest ≡ true → Split text tokens rest
split_told text tokens rest (no_more end) e = no_gap end e
split_told text tokens rest (blank b more ts end i d) e = split_gap (b ∷ more) more ts end (past_blank b more i) (split_told more ts end d e)
split_told text tokens rest (comment words more ts end n l d) e = split_gap (35 ∷ (words ++ more)) more ts end (past_comment words more n l) (split_told more ts end d e)
split_told text tokens rest (one whole t more ts end b d) e = (more, subst (λ x. BeginsWith x t more) (sym (no_gap whole (begins_past_gap whole t more b))) b, d)

-- the computed gap is the one
pub one_gap : (text rest : List ℕ) → Tokens text [] rest → is_past_gap rest ≡ true → past_gap false text ≡ rest
one_gap text rest gap past = split_told text [] rest gap past

-- ---- two readings

-- the tokens and what is left are the same
pub record Alike (ts us : List Token) (rest other : List ℕ) : Type 0 where
  pub tokens : ts ≡ us
  pub left : rest ≡ other

-- the second has a token more, with which the rest of the first begins
pub record GoesOn (ts us : List Token) (rest : List ℕ) : Type 0 where
  pub token : Token
  pub more : List Token
  pub left : List ℕ
  pub tokens : us ≡ ts ++ token ∷ more
  pub begins : BeginsWith rest token left

pub compared : (text : List ℕ) (ts us : List Token) (rest other : List ℕ) → Tokens text ts rest → Tokens text us other → is_past_gap rest ≡ true → is_past_gap other ≡ true → Alike ts us rest other ⊎ (GoesOn ts us rest ⊎ GoesOn us ts other)
compared text [] [] rest other a b e f = inl (record { tokens = refl; left = sym (split_told text [] rest a e) ∙ split_told text [] other b f })
compared text [] (u ∷ us) rest other a b e f =
    let s : Split text [] rest = split_told text [] rest a e in
    let t : Split text (u ∷ us) other = split_told text (u ∷ us) other b f in
    inr (inl (record { token = u; more = us; left = t.0; tokens = refl; begins = subst (λ x. BeginsWith x u t.0) s t.1 }))
compared text (t ∷ ts) [] rest other a b e f =
    let s : Split text (t ∷ ts) rest = split_told text (t ∷ ts) rest a e in
    let u : Split text [] other = split_told text [] other b f in
    inr (inr (record { token = t; more = ts; left = s.0; tokens = refl; begins = subst (λ x. BeginsWith x t s.0) u s.1 }))
compared text (t ∷ ts) (u ∷ us) rest other a b e f =
    let s : Split text (t ∷ ts) rest = split_told text (t ∷ ts) rest a e in
    let v : Split text (u ∷ us) other = split_told text (u ∷ us) other b f in
    let same : SameToken t u s.0 v.0 = one_token (past_gap false text) t u s.0 v.0 s.1 v.1 in
    let next : Tokens s.0 us other = subst (λ x. Tokens x us other) (sym same.rest) v.2 in
    elim (compared s.0 ts us rest other s.2 next e f) [
      | inl h ↦ inl (record { tokens = ap₂ (λ (x : Token) xs. x ∷ xs) same.token h.tokens; left = h.left })
      | inr h ↦ elim h [
        | inl g ↦ inr (inl (record { token = g.token; more = g.more; left = g.left; tokens = ap₂ (λ (x : Token) xs. x ∷ xs) (sym same.token) g.tokens; begins = g.begins }))
        | inr g ↦ inr (inr (record { token = g.token; more = g.more; left = g.left; tokens = ap₂ (λ (x : Token) xs. x ∷ xs) same.token g.tokens; begins = g.begins }))
      ]
    ]

-- nothing begins with a token at the end of a text
pub none_at_end : (t : Token) (left : List ℕ) → BeginsWith [] t left → ⊥
none_at_end t left b = let e = begins_told [] t left b in let n : ⊥ = cc in absurd n
