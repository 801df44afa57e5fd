-- A text with no bad byte is a name.
use Rattle.std.proofs.Common.{◌≡◌, ℕ, zero, suc, ◌<◌, ◌≤◌, Bool, false, not, List, [], ◌∷◌, length, None, position, IsTrue, get_or, ◌==◌, arith}
use Rattle.std.specs.List.{position_or_len}
use Rattle.std.proofs.lemmas.Bool.Decides.{nat_tests}
use Rattle.meaning_texts.specs.Limits.{word_limit}
use Rattle.meaning_texts.specs.Classes.{is_name_byte, IsName}

-- each byte passes where no place is found of one that fails
pub passed : (test : ℕ → Bool) (text : List ℕ) (k default : ℕ) → length text ≤ position_or_len (λ b. not (test b)) text → k < length text → IsTrue (test (get_or text k default))
passed test [] k default le lt = absurd (omega (arith, lt))
passed test (x ∷ text) zero default le lt = grind (arith, nat_tests)
passed test (x ∷ text) (suc k) default le lt = grind (arith, nat_tests, passed test text k default)

-- as a call tells it that tested these in turn
pub named : (text : List ℕ) → false ≡ (length text == 0) → length text ≤ word_limit → None ≡ position (λ b. not (is_name_byte b)) text → IsName text
named text some short none = record { some = grind (arith, nat_tests); short = short; each = λ k default lt. passed is_name_byte text k default (grind (arith, nat_tests)) lt }
