-- A text without an expression has its fault at the computed place.
use Rattle.std.proofs.Common.{◌≡◌, ℕ, zero, suc, ◌+◌, ◌<◌, ◌≤◌, min, true, false, List, [], length, take, Option, Some, None, refl, sym, ◌∙◌, subst, inl, inr, arith}
use Rattle.std.specs.Prelude.{MatchOption}
use Rattle.std.proofs.lemmas.Bool.{cases_Bool, both_ways, cases_lt}
use Rattle.object_values.specs.declared.expressions.Expression.{Expression}
use Rattle.meaning_texts.specs.Limits.{expression_limit}
use Rattle.meaning_texts.specs.Expressions.{IsFront, no_front, past_limit, too_short, IsFaultPlace, ExpressionText}
use Rattle.meaning_texts.specs.Reading.{expression_of}
use Rattle.meaning_texts.specs.Fronts.{is_front, first_stop, fault_place}
use Rattle.meaning_texts.proofs.Readings.{reads, is_read, none_not_some}
use Rattle.meaning_texts.proofs.GoOn.{front_from_test}
use Rattle.meaning_texts.proofs.GoneOn.{test_from_front}

-- what the first of n places from k on is, at which the bytes are no front
record Stop (text : List ℕ) (n k place : ℕ) : Type 0 where
  low : k ≤ place
  high : place ≤ k + n
  before : (j : ℕ) → k ≤ j → j < place → is_front (take j text) ≡ true
  there : place < k + n → is_front (take place text) ≡ false

one_later : (text : List ℕ) (n k place : ℕ) → is_front (take k text) ≡ true → Stop text n (k + 1) place → Stop text (suc n) k place
one_later text n k place e s =
    let low : k + 1 ≤ place = s.low in
    let high : place ≤ k + 1 + n = s.high in
    record {
      low = omega arith;
      high = omega arith;
      before = λ j a b. elim (cases_lt k j) [
        | inl l ↦ s.before j (omega arith) b
        | inr l ↦ let same : j ≡ k = omega arith in rw same e
      ];
      there = λ l. s.there (omega arith);
    }

stops : (text : List ℕ) (n k : ℕ) → Stop text n k (first_stop text n k)
stops text zero k = record { low = omega arith; high = omega arith; before = λ j a b. absurd (omega arith); there = λ l. absurd (omega arith) }
stops text (suc n) k = put (stops text n (k + 1))
  where
    put : Stop text n (k + 1) (first_stop text n (k + 1)) → Stop text (suc n) k (first_stop text (suc n) k)
    put s = elim (cases_Bool (is_front (take k text))) [
      | inl e ↦ rw e (one_later text n k (first_stop text n (k + 1)) e s)
      | inr e ↦ rw e (record { low = omega arith; high = omega arith; before = λ j a b. absurd (omega arith); there = λ l. e })
    ]

empty_front : is_front [] ≡ true
unfolding is_front
empty_front = refl

not_front : (text : List ℕ) (n : ℕ) → is_front (take n text) ≡ false → IsFront (take n text) → ⊥
not_front text n e f = both_ways _ e (test_from_front (take n text) f)

-- the place of a fault, from what the first stop is
placed : (text : List ℕ) (stop : ℕ) → Stop text (length text) 1 stop → ((e : Expression) → ExpressionText text e → ⊥) → IsFaultPlace text (min stop (expression_limit + 1))
placed text stop s never =
    let low : 1 ≤ stop = s.low in
    let high : stop ≤ 1 + length text = s.high in
    record {
      counted = omega arith;
      before = λ n l. front_at n (omega arith);
      within = omega arith;
      there = elim (cases_lt stop (1 + length text)) [
        | inl a ↦ elim (cases_lt stop (expression_limit + 2)) [
          | inl b ↦ let m : min stop (expression_limit + 1) ≡ stop = omega arith in rw m (no_front (omega arith) (not_front text stop (s.there a)))
          | inr b ↦ past_limit (omega arith) (omega arith)
        ]
        | inr a ↦ elim (cases_lt stop (expression_limit + 2)) [
          | inl b ↦ too_short (omega arith) never
          | inr b ↦ past_limit (omega arith) (omega arith)
        ]
      ];
    }
  where
    front_at : (n : ℕ) → n < stop → IsFront (take n text)
    front_at zero l = front_from_test [] empty_front
    front_at (suc n) l = front_from_test (take (suc n) text) (s.before (suc n) (omega arith) l)

pub found : (text : List ℕ) → MatchOption (expression_of text) (IsFaultPlace text (fault_place text)) (ExpressionText text)
unfolding fault_place
found text = by_answer (expression_of text) refl
  where
    by_answer : (o : Option Expression) → expression_of text ≡ o → MatchOption o (IsFaultPlace text (min (first_stop text (length text) 1) (expression_limit + 1))) (ExpressionText text)
    by_answer None e = placed text (first_stop text (length text) 1) (stops text (length text) 1) (λ x t. none_not_some x (sym e ∙ reads text x t))
    by_answer (Some x) e = is_read text x e

-- a text that computes to no expression has its fault where it computes to
pub fault_by : (text : List ℕ) (place : ℕ) → expression_of text ≡ None → fault_place text ≡ place → IsFaultPlace text place
fault_by text place e p = subst (IsFaultPlace text) p (subst (λ (o : Option Expression). MatchOption o (IsFaultPlace text (fault_place text)) (ExpressionText text)) e (found text))
