-- Where words, strings and comments end, by the places of bytes.
use Rattle.std.proofs.Common.{◌≡◌, ◌≢◌, ℕ, zero, suc, ◌+◌, ◌<◌, ◌≤◌, Bool, true, false, not, List, [], ◌∷◌, Some, None, length, take, drop, get_or, position, inl, inr, refl, sym, ap, ◌∙◌, add-one, arith}
use Rattle.std.specs.Prelude.{nat_eq, nat_lt}
use Rattle.std.proofs.lemmas.Bool.{cases_Bool, ne_eqb, eq-eqb, ltb-false, not-false}
use Rattle.std.specs.List.{position_or_len}
use Rattle.std.proofs.lemmas.List.Sums.{fails_before_first}
use Rattle.meaning_texts.specs.Classes.{is_name_byte}
use Rattle.meaning_texts.specs.Tests.{is_string_text}
use Rattle.meaning_graph.specs.Tokens.{string}
use Rattle.meaning_graph.specs.Lexing.{past_gap, name_front, past_names, before_quote, behind_quote, taken, token_at}

-- ---- words

-- a front of name bytes is the longest one where no name byte follows
pub record WordEnd (text : List ℕ) (end : ℕ) : Type 0 where
  pub front : take end text ≡ name_front text
  pub behind : drop end text ≡ past_names text

pub word_end : (text : List ℕ) (end : ℕ) → end ≤ length text → ((k : ℕ) → k < end → is_name_byte (get_or text k 0) ≡ true) → (end < length text → is_name_byte (get_or text end 0) ≡ false) → WordEnd text end
word_end [] zero le before at = record { front = refl; behind = refl }
word_end [] (suc end) le before at = absurd (omega arith)
word_end (b ∷ text) zero le before at = let e : is_name_byte b ≡ false = at (omega arith) in record { front = rw e refl; behind = rw e refl }
word_end (b ∷ text) (suc end) le before at =
    let e : is_name_byte b ≡ true = before 0 (omega arith) in
    let w : WordEnd text end = word_end text end (omega arith) (λ k lt. before (suc k) (omega arith)) (λ lt. at (omega arith)) in
    record { front = rw e (ap (λ t. b ∷ t) w.front); behind = rw e w.behind }

-- where none is found that fails, all pass
pub none_fails : (test : ℕ → Bool) (text : List ℕ) → position (λ b. not (test b)) text ≡ None → (k : ℕ) → k < length text → test (get_or text k 0) ≡ true
none_fails test text none k lt = elim (cases_Bool (nat_lt (position_or_len (λ b. not (test b)) text) (length text))) [
  | inl e ↦ let f = rw e at none in let n : ⊥ = cc in absurd n
  | inr e ↦
      let past : length text ≤ position_or_len (λ b. not (test b)) text = ltb-false _ _ e in
      not-false (test (get_or text k 0)) (fails_before_first (λ b. not (test b)) text k 0 (omega arith))
]

-- ---- strings

pub record QuoteAt (text : List ℕ) (end : ℕ) : Type 0 where
  pub front : take end text ≡ before_quote text
  pub behind : behind_quote text ≡ Some (drop (end + 1) text)

pub quote_at : (text : List ℕ) (end : ℕ) → end < length text → ((k : ℕ) → k < end → get_or text k 0 ≢ 34) → get_or text end 0 ≡ 34 → QuoteAt text end
quote_at [] end lt before at = absurd (omega arith)
quote_at (b ∷ text) zero lt before at = let e : nat_eq b 34 ≡ true = eq-eqb b 34 at in record { front = rw e refl; behind = rw e refl }
quote_at (b ∷ text) (suc end) lt before at =
    let e : nat_eq b 34 ≡ false = ne_eqb b 34 (before 0 (omega arith)) in
    let q : QuoteAt text end = quote_at text end (omega arith) (λ k less. before (suc k) (omega arith)) at in
    record { front = rw e (ap (λ t. b ∷ t) q.front); behind = rw (e, add-one) (q.behind ∙ ap (λ n. Some (drop n text)) (add-one end)) }

pub no_quote : (text : List ℕ) → ((k : ℕ) → k < length text → get_or text k 0 ≢ 34) → behind_quote text ≡ None
no_quote [] none = refl
no_quote (b ∷ text) none = rw (ne_eqb b 34 (none 0 (omega arith))) (no_quote text (λ k less. none (suc k) (omega arith)))

-- ---- comments

pub comment_end : (text : List ℕ) (end : ℕ) → end < length text → ((k : ℕ) → k < end → get_or text k 0 ≢ 10) → get_or text end 0 ≡ 10 → past_gap false (drop end text) ≡ past_gap true text
comment_end [] end lt before at = absurd (omega arith)
comment_end (b ∷ text) zero lt before at = let e : b ≡ 10 = at in rw e refl
comment_end (b ∷ text) (suc end) lt before at = rw (ne_eqb b 10 (before 0 (omega arith))) (comment_end text end (omega arith) (λ k less. before (suc k) (omega arith)) at)

pub no_comment_end : (text : List ℕ) → ((k : ℕ) → k < length text → get_or text k 0 ≢ 10) → past_gap true text ≡ []
no_comment_end [] none = refl
no_comment_end (b ∷ text) none = rw (ne_eqb b 10 (none 0 (omega arith))) (no_comment_end text (λ k less. none (suc k) (omega arith)))

-- ---- tokens

pub string_read : (text : List ℕ) (end : ℕ) → QuoteAt text end → is_string_text (take end text) ≡ true → token_at (34 ∷ text) ≡ Some (taken (string (take end text)) (drop (end + 1) text))
string_read text end q e =
    let f : take end text ≡ before_quote text = q.front in
    let test : is_string_text (before_quote text) ≡ true = sym (ap is_string_text f) ∙ e in
    rw (f, test, q.behind) refl

pub string_refused : (text : List ℕ) (end : ℕ) → QuoteAt text end → is_string_text (take end text) ≡ false → token_at (34 ∷ text) ≡ None
string_refused text end q e =
    let test : is_string_text (before_quote text) ≡ false = sym (ap is_string_text q.front) ∙ e in
    rw test refl

pub string_open : (text : List ℕ) → behind_quote text ≡ None → token_at (34 ∷ text) ≡ None
string_open text e = elim (cases_Bool (is_string_text (before_quote text))) [
  | inl t ↦ rw (t, e) refl
  | inr t ↦ rw t refl
]
