-- Bytes that lines don't hold, and what follows where two texts with a byte between their parts are one.
use Rattle.std.proofs.Common.{◌≡◌, ℕ, zero, suc, ◌+◌, ◌/◌, ◌%◌, ◌<◌, Bool, true, false, not, List, [], ◌∷◌, ◌++◌, refl, sym, ap₂, subst, inl, inr, arith}
use Rattle.std.specs.Prelude.{nat_eq, decimal}
use Rattle.std.specs.Fmt.{digits, digits_onto, digit_glyph}
use Rattle.std.specs.List.{list_all}
use Rattle.std.proofs.lemmas.Bool.{cases_Bool, both_ways, and_parts, and_from, eqb-true, eqb-false, not-true, not_from_false, lt-ltb, le-leb}
use Rattle.std.proofs.lemmas.List.Sums.{list_all-from_AllPass}
use Rattle.meaning_texts.specs.Classes.{is_digit, is_key_byte, IsId}
use Rattle.meaning_texts.specs.Lines.{HasNoLf}

-- the byte stands nowhere in the text
abbrev pub lacks : ℕ → List ℕ → Bool
lacks c text = list_all (λ b. not (nat_eq b c)) text

class_lacks : (class : ℕ → Bool) (c : ℕ) → class c ≡ false → (b : ℕ) → class b ≡ true → not (nat_eq b c) ≡ true
class_lacks class c none b e = elim (cases_Bool (nat_eq b c)) [
  | inl t ↦ absurd (both_ways (class b) (rw (eqb-true b c t) none) e)
  | inr f ↦ not_from_false (nat_eq b c) f
]

pub word_lacks : (class : ℕ → Bool) (c : ℕ) → class c ≡ false → (text : List ℕ) → list_all class text ≡ true → lacks c text ≡ true
word_lacks class c none [] e = refl
word_lacks class c none (b ∷ rest) e = let h = and_parts (class b) (list_all class rest) e in and_from _ _ (class_lacks class c none b h.0) (word_lacks class c none rest h.1)

pub id_lacks : (c : ℕ) → is_key_byte c ≡ false → (id : List ℕ) → IsId id → lacks c id ≡ true
id_lacks c none id i = word_lacks is_key_byte c none id (list_all-from_AllPass is_key_byte id i.key.each)

pub no_lf_from : (text : List ℕ) → lacks 10 text ≡ true → HasNoLf text
no_lf_from [] e = tt
no_lf_from (b ∷ rest) e = let h = and_parts (not (nat_eq b 10)) (lacks 10 rest) e in (eqb-false b 10 (not-true (nat_eq b 10) h.0), no_lf_from rest h.1)

-- ---- numbers

glyph_is_digit : (d : ℕ) → d < 10 → is_digit (digit_glyph false d) ≡ true
glyph_is_digit d low = rw (lt-ltb d 10 low) (and_from _ _ (le-leb 48 (48 + d) (omega arith)) (le-leb (48 + d) 57 (omega arith)))

onto_digits : (k n : ℕ) (acc : List ℕ) → list_all is_digit acc ≡ true → list_all is_digit (digits_onto k 10 false n acc) ≡ true
onto_digits zero n acc e = e
onto_digits (suc k) n acc e =
    let g : is_digit (digit_glyph false (n % 10)) ≡ true = glyph_is_digit (n % 10) (omega arith) in
    let more : list_all is_digit (digit_glyph false (n % 10) ∷ acc) ≡ true = and_from _ _ g e in
    elim (cases_Bool (nat_eq (n / 10) 0)) [
      | inl t ↦ rw t more
      | inr t ↦ rw t (onto_digits k (n / 10) (digit_glyph false (n % 10) ∷ acc) more)
    ]

decimal_digits : (n : ℕ) → list_all is_digit (decimal n) ≡ true
unfolding digits
decimal_digits n = onto_digits 64 n [] refl

pub decimal_lacks : (c : ℕ) → is_digit c ≡ false → (n : ℕ) → lacks c (decimal n) ≡ true
decimal_lacks c none n = word_lacks is_digit c none (decimal n) (decimal_digits n)

-- ---- texts that are cut at one byte

pub record SameParts (xs ys us vs : List ℕ) : Type 0 where
  pub before : xs ≡ ys
  pub behind : us ≡ vs

pub cut_at : (c : ℕ) (xs ys us vs : List ℕ) → lacks c xs ≡ true → lacks c ys ≡ true → xs ++ c ∷ us ≡ ys ++ c ∷ vs → SameParts xs ys us vs
cut_at c [] [] us vs a b e = record { before = refl; behind = cc }
cut_at c [] (y ∷ ys) us vs a b e =
    let same : c ≡ y = cc in
    let h = and_parts (not (nat_eq y c)) (lacks c ys) b in
    absurd (eqb-false y c (not-true (nat_eq y c) h.0) (sym same))
cut_at c (x ∷ xs) [] us vs a b e =
    let same : x ≡ c = cc in
    let h = and_parts (not (nat_eq x c)) (lacks c xs) a in
    absurd (eqb-false x c (not-true (nat_eq x c) h.0) same)
cut_at c (x ∷ xs) (y ∷ ys) us vs a b e =
    let first : x ≡ y = cc in
    let rest : xs ++ c ∷ us ≡ ys ++ c ∷ vs = cc in
    let h = and_parts (not (nat_eq x c)) (lacks c xs) a in
    let k = and_parts (not (nat_eq y c)) (lacks c ys) b in
    let r : SameParts xs ys us vs = cut_at c xs ys us vs h.1 k.1 rest in
    record { before = ap₂ (λ (b : ℕ) bs. b ∷ bs) first r.before; behind = r.behind }

-- ---- lists of lines that are cut at a kind of line

pub record SameLists (xs ys us vs : List (List ℕ)) : Type 0 where
  pub before : xs ≡ ys
  pub behind : us ≡ vs

pub cut_kind : (kind : List ℕ → Bool) (xs ys us vs : List (List ℕ)) → list_all kind xs ≡ true → list_all kind ys ≡ true → list_all (λ l. not (kind l)) us ≡ true → list_all (λ l. not (kind l)) vs ≡ true
    → xs ++ us ≡ ys ++ vs → SameLists xs ys us vs
cut_kind kind [] [] us vs a b c d e = record { before = refl; behind = e }
cut_kind kind [] (y ∷ ys) us vs a b c d e =
    let h = and_parts (kind y) (list_all kind ys) b in
    let k : list_all (λ l. not (kind l)) (y ∷ (ys ++ vs)) ≡ true = subst (λ ls. list_all (λ l. not (kind l)) ls ≡ true) e c in
    let m = and_parts (not (kind y)) (list_all (λ l. not (kind l)) (ys ++ vs)) k in
    absurd (both_ways (kind y) (not-true (kind y) m.0) h.0)
cut_kind kind (x ∷ xs) [] us vs a b c d e =
    let h = and_parts (kind x) (list_all kind xs) a in
    let k : list_all (λ l. not (kind l)) (x ∷ (xs ++ us)) ≡ true = subst (λ ls. list_all (λ l. not (kind l)) ls ≡ true) (sym e) d in
    let m = and_parts (not (kind x)) (list_all (λ l. not (kind l)) (xs ++ us)) k in
    absurd (both_ways (kind x) (not-true (kind x) m.0) h.0)
cut_kind kind (x ∷ xs) (y ∷ ys) us vs a b c d e =
    let first : x ≡ y = cc in
    let rest : xs ++ us ≡ ys ++ vs = cc in
    let h = and_parts (kind x) (list_all kind xs) a in
    let k = and_parts (kind y) (list_all kind ys) b in
    let r : SameLists xs ys us vs = cut_kind kind xs ys us vs h.1 k.1 c d rest in
    record { before = ap₂ (λ (l : List ℕ) ls. l ∷ ls) first r.before; behind = r.behind }
