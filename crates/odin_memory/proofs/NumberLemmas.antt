-- The number that a text spells, below a bound.
use Rattle.std.proofs.Common.{◌≡◌, ◌≢◌, ℕ, zero, suc, ◌<◌, ◌≤◌, ◌^◌, List, decimal, refl, sym, ap, ◌∙◌, arith, inl, inr}
use Rattle.std.specs.Prelude.{bytes_eq}
use Rattle.std.specs.Cmp.Lexicographic.{bytes_decides}
use Rattle.std.proofs.lemmas.Bool.{cases_Bool, cases_lt}
use Rattle.std.proofs.lemmas.Fmt.{decimal_injective}
use Rattle.odin_memory.specs.Programs.{number_below}

number_found : (bound number : ℕ) (text : List ℕ) → bound ≤ 2 ^ 64 → number < bound → text ≡ decimal number → number_below bound text ≡ number
unfolding number_below
number_found zero number text small below is = absurd (omega arith)
number_found (suc n) number text small below is = elim (cases_Bool (bytes_eq (decimal n) text)) [
  | inl e ↦ rw e (decimal_injective n number (omega arith) (omega arith) ((bytes_decides (decimal n) text).0 e ∙ is))
  | inr e ↦
      let apart : number ≢ n = λ same. let reads = (bytes_decides (decimal n) text).1 (ap decimal (sym same) ∙ sym is) in cc in
      rw e (number_found n number text (omega arith) (omega arith) is)
]

pub number_missing : (bound : ℕ) (text : List ℕ) → ((n : ℕ) → n < bound → text ≢ decimal n) → number_below bound text ≡ 0
unfolding number_below
number_missing zero text none = refl
number_missing (suc n) text none = elim (cases_Bool (bytes_eq (decimal n) text)) [
  | inl e ↦ absurd (none n (omega arith) (sym ((bytes_decides (decimal n) text).0 e)))
  | inr e ↦ rw e (number_missing n text (λ m below. none m (omega arith)))
]

-- a text of digits is their number, if it lies below the bound, and else 0
pub by_bound : {R : Type 0} (bound number : ℕ) (text : List ℕ) → bound ≤ 2 ^ 64 → number < 2 ^ 64 → text ≡ decimal number
    → (number < bound → number_below bound text ≡ number → R) → (bound ≤ number → number_below bound text ≡ 0 → R) → R
by_bound bound number text small fits is found missing = elim (cases_lt number bound) [
  | inl below ↦ found below (number_found bound number text small below is)
  | inr past ↦ missing past (number_missing bound text (λ n below reads. let same : n ≡ number = decimal_injective n number (omega arith) fits (sym reads ∙ is) in omega arith))
]
