-- A line that ends with a CR, or doesn't.
use Rattle.std.proofs.Common.{◌≡◌, ℕ, suc, ◌+◌, ◌-◌, List, [], ◌∷◌, length, take, drop, Option, Some, None, Bor, refl, ap, ◌∙◌, arith, inl, inr}
use Rattle.std.specs.Prelude.{Bool, true, false, nat_eq, MatchOption, unwrap_or}
use Rattle.std.specs.Cmp.Lexicographic.{pointwise}
use Rattle.std.proofs.lemmas.Bool.{cases_Bool}
use Rattle.meaning_texts.specs.Lines.{without_cr}

-- the last byte is a CR
abbrev pub ends_with_cr : List ℕ → Bool
ends_with_cr line = pointwise nat_eq (drop (length line - 1) line) (13 ∷ [])

-- the line without its last byte
abbrev pub but_last : List ℕ → List ℕ
but_last line = take (length line - 1) line

cr_dropped : (line : List ℕ) → ends_with_cr line ≡ true → but_last line ≡ without_cr line
cr_dropped [] is = cc
cr_dropped (b ∷ []) is = elim (cases_Bool (nat_eq b 13)) [
  | inl e ↦ rw e refl
  | inr e ↦ let h = rw e at is in let n : ⊥ = cc in absurd n
]
cr_dropped (b ∷ c ∷ line) is =
    let here : suc (suc (length line)) - 1 ≡ suc (length line) = omega arith in
    let behind : suc (length line) - 1 ≡ length line = omega arith in
    rw here (ap (λ rest. b ∷ rest) (rw behind at (cr_dropped (c ∷ line) (rw behind (rw here at is)))))

cr_kept : (line : List ℕ) → ends_with_cr line ≡ false → line ≡ without_cr line
cr_kept [] is = refl
cr_kept (b ∷ []) is = elim (cases_Bool (nat_eq b 13)) [
  | inl e ↦ let h = rw e at is in let n : ⊥ = cc in absurd n
  | inr e ↦ rw e refl
]
cr_kept (b ∷ c ∷ line) is =
    let here : suc (suc (length line)) - 1 ≡ suc (length line) = omega arith in
    let behind : suc (length line) - 1 ≡ length line = omega arith in
    ap (λ rest. b ∷ rest) (cr_kept (c ∷ line) (rw behind (rw here at is)))

-- what a test for a CR at the end found
pub dropped : (line got : Bor (List ℕ)) (front : Option (Bor (List ℕ))) → got ≡ unwrap_or front line
    → MatchOption front (ends_with_cr line.now ≡ false) (λ f. (ends_with_cr line.now ≡ true) × (f.now ≡ but_last line.now) × (length f.now + 1 ≡ length line.now))
    → got.now ≡ without_cr line.now
dropped line got None is cases = ap (λ (b : Bor (List ℕ)). b.now) is ∙ cr_kept line.now cases
dropped line got (Some f) is cases = ap (λ (b : Bor (List ℕ)). b.now) is ∙ cases.1 ∙ cr_dropped line.now cases.0
