-- The computed lines of a text are its lines, and there are no others.
use Rattle.std.proofs.Common.{◌≡◌, ◌≢◌, ℕ, suc, ◌-◌, Bool, true, false, List, [], ◌∷◌, ◌++◌, length, take, cond, refl, sym, ap, ◌∙◌, subst, inl, inr, append_assoc, arith}
use Rattle.std.specs.Prelude.{nat_eq, slice_index}
use Rattle.std.specs.List.{flat_map, All}
use Rattle.std.proofs.lemmas.Bool.{cases_Bool, eqb-true, eqb-false, ne_eqb}
use Rattle.std.proofs.lemmas.List.Elements.{All-head, All-tail, All-nil, All-cons}
use Rattle.meaning_texts.specs.Lines.{HasNoLf, with_lf, AreLines, LineCut, put_byte, cut_lines, without_cr}

-- ---- they are its lines

put_text : (b : ℕ) (full : List (List ℕ)) (last : List ℕ) → flat_map with_lf (put_byte b full last).full ++ (put_byte b full last).last ≡ b ∷ (flat_map with_lf full ++ last)
put_text b [] last = refl
put_text b (line ∷ full) last = refl

pub cut_text : (text : List ℕ) → text ≡ flat_map with_lf (cut_lines text).full ++ (cut_lines text).last
cut_text [] = refl
cut_text (b ∷ rest) = elim (cases_Bool (nat_eq b 10)) [
  | inl e ↦ rw (e, eqb-true b 10 e) (ap (λ t. 10 ∷ t) (cut_text rest))
  | inr e ↦ rw e (ap (λ t. b ∷ t) (cut_text rest) ∙ sym (put_text b (cut_lines rest).full (cut_lines rest).last))
]

put_full : (b : ℕ) (full : List (List ℕ)) (last : List ℕ) → b ≢ 10 → All HasNoLf full → All HasNoLf (put_byte b full last).full
put_full b [] last n c = c
put_full b (line ∷ full) last n c = All-cons HasNoLf (b ∷ line) full (n, All-head HasNoLf line full c) (All-tail HasNoLf line full c)

put_last : (b : ℕ) (full : List (List ℕ)) (last : List ℕ) → b ≢ 10 → HasNoLf last → HasNoLf (put_byte b full last).last
put_last b [] last n c = (n, c)
put_last b (line ∷ full) last n c = c

pub full_no_lf : (text : List ℕ) → All HasNoLf (cut_lines text).full
full_no_lf [] = All-nil HasNoLf
full_no_lf (b ∷ rest) = elim (cases_Bool (nat_eq b 10)) [
  | inl e ↦ rw e (All-cons HasNoLf [] (cut_lines rest).full tt (full_no_lf rest))
  | inr e ↦ rw e (put_full b (cut_lines rest).full (cut_lines rest).last (eqb-false b 10 e) (full_no_lf rest))
]

pub last_no_lf : (text : List ℕ) → HasNoLf (cut_lines text).last
last_no_lf [] = tt
last_no_lf (b ∷ rest) = elim (cases_Bool (nat_eq b 10)) [
  | inl e ↦ rw e (last_no_lf rest)
  | inr e ↦ rw e (put_last b (cut_lines rest).full (cut_lines rest).last (eqb-false b 10 e) (last_no_lf rest))
]

pub are_lines : (text : List ℕ) → AreLines text (cut_lines text).full (cut_lines text).last
are_lines text = record { is = cut_text text; full_lines = full_no_lf text; last_piece = last_no_lf text }

-- ---- there are no others

pub cut_last : (last : List ℕ) → HasNoLf last → cut_lines last ≡ record { full = []; last = last }
cut_last [] n = refl
cut_last (b ∷ rest) n = rw (ne_eqb b 10 n.0, cut_last rest n.1) refl

pub cut_line : (line rest : List ℕ) → HasNoLf line → cut_lines (line ++ 10 ∷ rest) ≡ record { full = line ∷ (cut_lines rest).full; last = (cut_lines rest).last }
cut_line [] rest n = refl
cut_line (b ∷ line) rest n = rw (ne_eqb b 10 n.0, cut_line line rest n.1) refl

pub cut_full : (full : List (List ℕ)) (last : List ℕ) → All HasNoLf full → HasNoLf last → cut_lines (flat_map with_lf full ++ last) ≡ record { full = full; last = last }
cut_full [] last c n = cut_last last n
cut_full (line ∷ full) last c n =
    let t : (with_lf line ++ flat_map with_lf full) ++ last ≡ line ++ 10 ∷ (flat_map with_lf full ++ last) = append_assoc (with_lf line) (flat_map with_lf full) last ∙ append_assoc line (10 ∷ []) (flat_map with_lf full ++ last) in
    rw (t, cut_line line (flat_map with_lf full ++ last) (All-head HasNoLf line full c), cut_full full last (All-tail HasNoLf line full c) n) refl

pub one_cut : (text : List ℕ) (full : List (List ℕ)) (last : List ℕ) → AreLines text full last → cut_lines text ≡ record { full = full; last = last }
one_cut text full last l = ap cut_lines l.is ∙ cut_full full last l.full_lines l.last_piece

pub lines_from_cut : (text : List ℕ) (full : List (List ℕ)) (last : List ℕ) → cut_lines text ≡ record { full = full; last = last } → AreLines text full last
lines_from_cut text full last e = subst (λ (c : LineCut). AreLines text c.full c.last) e (are_lines text)

-- ---- a CR at the end of a line

-- the line without it, by the place of its last byte
pub without_cr_is : (line : List ℕ) → without_cr line ≡ cond (nat_eq (slice_index line (length line - 1)) 13) (take (length line - 1) line) line
without_cr_is [] = refl
without_cr_is (b ∷ []) = elim (cases_Bool (nat_eq b 13)) [
  | inl e ↦ rw e refl
  | inr e ↦ rw e refl
]
without_cr_is (b ∷ c ∷ line) =
    let behind : without_cr (c ∷ line) ≡ cond (nat_eq (slice_index (c ∷ line) (length (c ∷ line) - 1)) 13) (take (length (c ∷ line) - 1) (c ∷ line)) (c ∷ line) = without_cr_is (c ∷ line) in
    let n : length (b ∷ c ∷ line) - 1 ≡ suc (length (c ∷ line) - 1) = omega arith in
    rw n (ap (λ rest. b ∷ rest) behind ∙ cond_cons (nat_eq (slice_index (c ∷ line) (length (c ∷ line) - 1)) 13) (take (length (c ∷ line) - 1) (c ∷ line)) (c ∷ line))
  where
    cond_cons : (t : Bool) (xs ys : List ℕ) → b ∷ cond t xs ys ≡ cond t (b ∷ xs) (b ∷ ys)
    cond_cons true xs ys = refl
    cond_cons false xs ys = refl
