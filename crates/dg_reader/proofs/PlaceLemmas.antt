-- Lines and columns by the places of LF.
use Rattle.std.proofs.Common.{◌≡◌, ◌≢◌, ℕ, zero, suc, ◌+◌, ◌<◌, true, List, [], ◌∷◌, length, drop, get_or, count_by, cond, refl, ◌∙◌, add-one, inl, inr, arith}
use Rattle.std.specs.Prelude.{nat_eq}
use Rattle.std.proofs.lemmas.Bool.{cases_Bool, ne_eqb, eq-eqb}
use Rattle.std.proofs.lemmas.List.Recursion.{is_count_by}
use Rattle.meaning_texts.specs.Lines.{put_byte, cut_lines}

put_length : (b : ℕ) (full : List (List ℕ)) (last : List ℕ) → length (put_byte b full last).full ≡ length full
put_length b [] last = refl
put_length b (line ∷ full) last = refl

count_step : (b : ℕ) (rest : List ℕ) → length (cut_lines (b ∷ rest)).full ≡ cond (nat_eq b 10) (1 + length (cut_lines rest).full) (length (cut_lines rest).full)
count_step b rest = elim (cases_Bool (nat_eq b 10)) [
  | inl e ↦ rw e (let one : suc (length (cut_lines rest).full) ≡ 1 + length (cut_lines rest).full = omega arith in one)
  | inr e ↦ rw e (put_length b (cut_lines rest).full (cut_lines rest).last)
]

-- there are as many full lines as LF
pub count_lines : (text : List ℕ) → length (cut_lines text).full ≡ count_by (λ b. nat_eq b 10) text
count_lines text = is_count_by (λ (t : List ℕ). length (cut_lines t).full) (λ b. nat_eq b 10) refl count_step text

-- a text without LF is its own last piece
pub whole_last : (text : List ℕ) → ((k : ℕ) → k < length text → get_or text k 0 ≢ 10) → cut_lines text ≡ record { full = []; last = text }
whole_last [] none = refl
whole_last (b ∷ text) none = rw (ne_eqb b 10 (none 0 (omega arith)), whole_last text (λ k less. none (suc k) (omega arith))) refl

last_put : (b c : ℕ) (full : List (List ℕ)) (last : List ℕ) → 0 < length full → (put_byte b full last).last ≡ last
last_put b c [] last some = absurd (omega arith)
last_put b c (line ∷ full) last some = refl

record LastPiece (text : List ℕ) (end : ℕ) : Type 0 where
  some : 0 < length (cut_lines text).full
  last : (cut_lines text).last ≡ drop (end + 1) text

last_piece : (text : List ℕ) (end : ℕ) → end < length text → ((k : ℕ) → end < k → k < length text → get_or text k 0 ≢ 10) → get_or text end 0 ≡ 10 → LastPiece text end
last_piece [] end lt after at = absurd (omega arith)
last_piece (b ∷ text) zero lt after at =
    let e : nat_eq b 10 ≡ true = eq-eqb b 10 at in
    let w = whole_last text (λ k less. after (suc k) (omega arith) (omega arith)) in
    record { some = rw e (omega arith); last = rw (e, w) refl }
last_piece (b ∷ text) (suc end) lt after at =
    let p : LastPiece text end = last_piece text end (omega arith) (λ k more less. after (suc k) (omega arith) (omega arith)) at in
    let some : 0 < length (cut_lines text).full = p.some in
    let s : drop (end + 1) text ≡ drop (suc end + 1) (b ∷ text) = rw (add-one, add-one) refl in
    elim (cases_Bool (nat_eq b 10)) [
      | inl e ↦ record { some = rw e (omega arith); last = rw e (p.last ∙ s) }
      | inr e ↦
          let l : length (put_byte b (cut_lines text).full (cut_lines text).last).full ≡ length (cut_lines text).full = put_length b (cut_lines text).full (cut_lines text).last in
          record { some = rw e (omega arith); last = rw e (last_put b b (cut_lines text).full (cut_lines text).last some ∙ p.last ∙ s) }
    ]

-- what stands after the last LF
pub behind_last : (text : List ℕ) (end : ℕ) → end < length text → ((k : ℕ) → end < k → k < length text → get_or text k 0 ≢ 10) → get_or text end 0 ≡ 10 → (cut_lines text).last ≡ drop (end + 1) text
behind_last text end lt after at = (last_piece text end lt after at).last
