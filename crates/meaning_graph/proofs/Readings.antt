-- Readings of a text: put together, cut apart, and what stands before their rest.
use Rattle.std.proofs.Common.{◌≡◌, ℕ, ◌+◌, ◌<◌, ◌≤◌, Bool, true, false, ◌||◌, List, [], ◌∷◌, ◌++◌, length, refl, sym, ap, subst, ◌∙◌, inl, inr, append_assoc, arith, length-append}
use Rattle.std.specs.Prelude.{nat_eq}
use Rattle.std.proofs.lemmas.Bool.{cases_Bool, or_from, not_from_false}
use Rattle.meaning_graph.specs.Tokens.{Token, is_blank, BeginsWith, a_word, a_string, a_semicolon, a_comma, an_opening, a_closing, Tokens, no_more, blank, comment, one, is_past_gap}
use Rattle.meaning_graph.specs.Lexing.{past_gap}
use Rattle.meaning_graph.proofs.Lexed.{gap_read}

-- ---- put together, and cut apart

pub tokens_append : (text : List ℕ) (ts : List Token) (mid : List ℕ) (us : List Token) (rest : List ℕ) → Tokens text ts mid → Tokens mid us rest → Tokens text (ts ++ us) rest
tokens_append text ts mid us rest (no_more end) d = d
tokens_append text ts mid us rest (blank b more tokens end i c) d = blank b more (tokens ++ us) rest i (tokens_append more tokens end us rest c d)
tokens_append text ts mid us rest (comment words more tokens end n l c) d = comment words more (tokens ++ us) rest n l (tokens_append more tokens end us rest c d)
tokens_append text ts mid us rest (one whole t more tokens end b c) d = one whole t more (tokens ++ us) rest b (tokens_append more tokens end us rest c d)

-- where the first tokens end
pub record Cut (text : List ℕ) (ts us : List Token) (rest : List ℕ) : Type 0 where
  pub mid : List ℕ
  pub before : Tokens text ts mid
  pub behind : Tokens mid us rest

cut_at : (text : List ℕ) (all ts us : List Token) (rest : List ℕ) → Tokens text all rest → all ≡ ts ++ us → Cut text ts us rest
cut_at text all [] us rest d is = record { mid = text; before = no_more text; behind = subst (λ xs. Tokens text xs rest) is d }
cut_at text [] (t ∷ ts) us rest d is = absurd cc
cut_at text all (t ∷ ts) us rest (blank b more tokens end i d) is =
    let c : Cut more (t ∷ ts) us end = cut_at more tokens (t ∷ ts) us end d is in
    record { mid = c.mid; before = blank b more (t ∷ ts) c.mid i c.before; behind = c.behind }
cut_at text all (t ∷ ts) us rest (comment words more tokens end n l d) is =
    let c : Cut more (t ∷ ts) us end = cut_at more tokens (t ∷ ts) us end d is in
    record { mid = c.mid; before = comment words more (t ∷ ts) c.mid n l c.before; behind = c.behind }
cut_at text all (t ∷ ts) us rest (one whole u more tokens end b d) is =
    let same : u ≡ t = cc in
    let c : Cut more ts us end = cut_at more tokens ts us end d cc in
    record { mid = c.mid; before = one whole t more ts c.mid (subst (λ x. BeginsWith whole x more) same b) c.before; behind = c.behind }

pub tokens_cut : (text : List ℕ) (ts us : List Token) (rest : List ℕ) → Tokens text (ts ++ us) rest → Cut text ts us rest
tokens_cut text ts us rest d = cut_at text (ts ++ us) ts us rest d refl

-- ---- before the rest

pub record Before (text rest : List ℕ) : Type 0 where
  pub front : List ℕ
  pub is : text ≡ front ++ rest

begins_before : (text : List ℕ) (t : Token) (rest : List ℕ) → BeginsWith text t rest → Before text rest
begins_before text t rest (a_word w more i n) = record { front = w; is = refl }
begins_before text t rest (a_string s more i) = record { front = 34 ∷ (s ++ 34 ∷ []); is = ap (λ x. 34 ∷ x) (sym (append_assoc s (34 ∷ []) more)) }
begins_before text t rest (a_semicolon more) = record { front = 59 ∷ []; is = refl }
begins_before text t rest (a_comma more) = record { front = 44 ∷ []; is = refl }
begins_before text t rest (an_opening more) = record { front = 40 ∷ []; is = refl }
begins_before text t rest (a_closing more) = record { front = 41 ∷ []; is = refl }

further : (text mid rest head : List ℕ) → text ≡ head ++ mid → Before mid rest → Before text rest
further text mid rest head e b = record { front = head ++ b.front; is = e ∙ ap (λ x. head ++ x) b.is ∙ sym (append_assoc head b.front rest) }

pub read_before : (text : List ℕ) (ts : List Token) (rest : List ℕ) → Tokens text ts rest → Before text rest
read_before text ts rest (no_more end) = record { front = []; is = refl }
read_before text ts rest (blank b more tokens end i d) = further (b ∷ more) more end (b ∷ []) refl (read_before more tokens end d)
read_before text ts rest (comment words more tokens end n l d) = further (35 ∷ (words ++ more)) more end (35 ∷ words) refl (read_before more tokens end d)
read_before text ts rest (one whole t more tokens end b d) =
    let h : Before whole more = begins_before whole t more b in
    further whole more end h.front h.is (read_before more tokens end d)

-- ---- gaps

pub past_is_past : (inside : Bool) (text : List ℕ) → is_past_gap (past_gap inside text) ≡ true
past_is_past false [] = refl
past_is_past true [] = refl
past_is_past false (b ∷ text) = elim (cases_Bool (is_blank b)) [
  | inl e ↦ rw e (past_is_past false text)
  | inr e ↦ elim (cases_Bool (nat_eq b 35)) [
    | inl h ↦ rw (e, h) (past_is_past true text)
    | inr h ↦ rw (e, h) (not_from_false (is_blank b || nat_eq b 35) (or_from (is_blank b) (nat_eq b 35) e h))
  ]
]
past_is_past true (b ∷ text) = elim (cases_Bool (nat_eq b 10)) [
  | inl e ↦ rw e (past_is_past false text)
  | inr e ↦ rw e (past_is_past true text)
]

pub past_read : (text : List ℕ) → Tokens text [] (past_gap false text)
past_read text = gap_read false text [] (past_gap false text) (no_more (past_gap false text))

-- ---- lengths

pub gap_shorter : (inside : Bool) (text : List ℕ) → length (past_gap inside text) ≤ length text
gap_shorter false [] = omega arith
gap_shorter true [] = omega arith
gap_shorter false (b ∷ text) = elim (cases_Bool (is_blank b)) [
  | inl e ↦ rw e (let h = gap_shorter false text in omega arith)
  | inr e ↦ elim (cases_Bool (nat_eq b 35)) [
    | inl h ↦ rw (e, h) (let h = gap_shorter true text in omega arith)
    | inr h ↦ rw (e, h) (omega arith)
  ]
]
gap_shorter true (b ∷ text) = elim (cases_Bool (nat_eq b 10)) [
  | inl e ↦ rw e (let h = gap_shorter false text in omega arith)
  | inr e ↦ rw e (let h = gap_shorter true text in omega arith)
]

pub begins_shorter : (text : List ℕ) (t : Token) (left : List ℕ) → BeginsWith text t left → length left < length text
begins_shorter text t left (a_word w more i n) = let s : 0 < length w = i.some in let l = length-append w more in omega arith
begins_shorter text t left (a_string s more i) = let l = length-append s (34 ∷ more) in omega arith
begins_shorter text t left (a_semicolon more) = omega arith
begins_shorter text t left (a_comma more) = omega arith
begins_shorter text t left (an_opening more) = omega arith
begins_shorter text t left (a_closing more) = omega arith

-- there are no more tokens than bytes
pub tokens_short : (text : List ℕ) (ts : List Token) (rest : List ℕ) → Tokens text ts rest → length ts + length rest ≤ length text
tokens_short text ts rest (no_more end) = omega arith
tokens_short text ts rest (blank b more tokens end i d) = let h = tokens_short more tokens end d in omega arith
tokens_short text ts rest (comment words more tokens end n l d) = let h = tokens_short more tokens end d in let a = length-append words more in omega arith
tokens_short text ts rest (one whole t more tokens end b d) = let h = tokens_short more tokens end d in let a = begins_shorter whole t more b in omega arith
