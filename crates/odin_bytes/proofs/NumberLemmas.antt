-- A text that spells a number is text, and reads as that number.
use Rattle.std.proofs.Common.{◌≡◌, ℕ, ◌<◌, ◌^◌, List, Result, Ok, Err, false, decimal, sym, ap, subst, ◌∙◌}
use Rattle.std.specs.Str.{IsAscii, IsUtf8}
use Rattle.std.specs.Str.Parse.{ParsesUnsigned}
use Rattle.std.specs.Cmp.Lexicographic.{pointwise, bytes_decides}
use Rattle.std.specs.Prelude.{nat_eq}
use Rattle.std.specs.Result.{result_unwrap_or}
use Rattle.std.proofs.lemmas.Str.{IsUtf8-from_ascii}
use Rattle.std.proofs.lemmas.Fmt.{IsAscii-decimal, parse-decimal}

pub spelling_is_text : (text : List ℕ) (number : ℕ) → number < 2 ^ 64 → text ≡ decimal number → IsUtf8 text
spelling_is_text text number small is = IsUtf8-from_ascii text (subst IsAscii (sym is) (IsAscii-decimal number small))

-- what is read of a spelling is no error, and the number alone
pub no_error : {E : Type 0} (text : List ℕ) (number : ℕ) (error : E) → number < 2 ^ 64 → text ≡ decimal number → ParsesUnsigned 64 10 text (Err error) → ⊥
no_error text number error small is parsed = let wrong = parse-decimal 64 number text (Err error) small small is parsed in cc

pub its_spelling : (text digits spelled : List ℕ) (number read : ℕ) → number < 2 ^ 64 → text ≡ decimal number → digits ≡ text → ParsesUnsigned {E = ℕ} 64 10 digits (Ok read) → spelled ≡ decimal read → false ≡ pointwise nat_eq spelled text → ⊥
its_spelling text digits spelled number read small is one parsed spells differ =
    let same : ◌≡◌ {A = Result ℕ ℕ} (Ok read) (Ok number) = parse-decimal 64 number digits (Ok read) small small (one ∙ is) parsed in
    let equal = (bytes_decides spelled text).1 (spells ∙ ap decimal (ap (λ r. result_unwrap_or r 0) same) ∙ sym is) in
    cc
