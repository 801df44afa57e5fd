-- Bytes that go into the block of a `ShaHasher` as one piece.
use Rattle.std.proofs.Common.{◌≡◌, ◌<◌, ◌≤◌, ◌+◌, ◌-◌, ◌%◌, ◌^◌, ℕ, zero, suc, Bool, true, false, cond, List, [], ◌∷◌, ◌++◌, append-nil, length, take, drop, take_all, get_or, ap, sym, ◌∙◌, subst, refl, arith}
use Rattle.std.proofs.Math.ListN.{set}
use Rattle.std.specs.Prelude.{nat_eq}
use Rattle.std.specs.List.{fold}
use Rattle.std.proofs.lemmas.Bool.Decides.{Decides-eqb}
use Rattle.std.proofs.lemmas.List.{drop-take, take-append-drop, take-take, take_more}
use Rattle.std.proofs.lemmas.List.Edits.{paste_more}
use Rattle.std.proofs.lemmas.List.Sums.{fold-append}
use lib.Seq.{paste}
use Rattle.sha2.specs.Sha256.{sha256}
use Rattle.content_store.specs.declared.hasher.ShaHasher.{ShaHasher}
use Rattle.content_store.specs.Digesting.{write_byte}

apart : (a b : ℕ) → ¬ (a ≡ b) → nat_eq a b ≡ false
apart a b ne = by (nat_eq a b) refl
  where
    by : (t : Bool) → nat_eq a b ≡ t → t ≡ false
    by true e = absurd (ne ((Decides-eqb a b).0 e))
    by false e = refl

module _ (s : ShaHasher) (piece : List ℕ) (small : s.written < 2 ^ 64) where
  abbrev pasted : ℕ → List ℕ
  pasted i = paste s.block (s.written % 256) piece i

  -- after the first bytes of the piece, which don't fill the block
  abbrev so_far : ℕ → ShaHasher
  so_far i = record { chain = s.chain; block = pasted i; written = (s.written + i) % 2 ^ 64 }

  -- where the next byte goes
  place : (i : ℕ) → s.written % 256 + i < 256 → (s.written + i) % 2 ^ 64 % 256 ≡ s.written % 256 + i
  place i h = omega (arith, small, h)

  counted : (i : ℕ) → ((s.written + i) % 2 ^ 64 + 1) % 2 ^ 64 ≡ (s.written + (i + 1)) % 2 ^ 64
  counted i = omega (arith, small)

  module _ (long : length s.block ≡ 256) where
    next : (i : ℕ) → i < length piece → s.written % 256 + i < 256 → set (pasted i) ((s.written + i) % 2 ^ 64 % 256) (get_or piece i 0) ≡ pasted (i + 1)
    next i within h = ap (λ k. set (pasted i) k (get_or piece i 0)) (place i h) ∙ paste_more s.block (s.written % 256) piece i 0 (omega (arith, h, long)) within

    step : (i : ℕ) → i < length piece → s.written % 256 + i < 255 → write_byte (so_far i) (get_or piece i 0) ≡ so_far (i + 1)
    unfolding write_byte
    step i within h =
        let at = place i (omega (arith, h)) in
        let open_still : nat_eq ((s.written + i) % 2 ^ 64 % 256) 255 ≡ false = apart ((s.written + i) % 2 ^ 64 % 256) 255 (λ e. omega (arith, h, e, at)) in
        let chain = ap (λ b. cond b (sha256 (s.chain ++ set (pasted i) ((s.written + i) % 2 ^ 64 % 256) (get_or piece i 0))) s.chain) open_still in
        let block = next i within (omega (arith, h)) in
        let written = counted i in
        λ k. record { chain = chain k; block = block k; written = written k }

    last_step : (i : ℕ) → i < length piece → s.written % 256 + i ≡ 255 → write_byte (so_far i) (get_or piece i 0) ≡ record { chain = sha256 (s.chain ++ pasted (i + 1)); block = pasted (i + 1); written = (s.written + (i + 1)) % 2 ^ 64 }
    unfolding write_byte
    last_step i within h =
        let at = place i (omega (arith, h)) in
        let full : nat_eq ((s.written + i) % 2 ^ 64 % 256) 255 ≡ true = (Decides-eqb ((s.written + i) % 2 ^ 64 % 256) 255).1 (at ∙ h) in
        let block = next i within (omega (arith, h)) in
        let chain = ap (λ b. cond b (sha256 (s.chain ++ set (pasted i) ((s.written + i) % 2 ^ 64 % 256) (get_or piece i 0))) s.chain) full ∙ ap (λ (l : List ℕ). sha256 (s.chain ++ l)) block in
        let written = counted i in
        λ k. record { chain = chain k; block = block k; written = written k }

    begun : s ≡ so_far 0
    begun =
        let block : s.block ≡ pasted 0 =
        sym (take-append-drop (s.written % 256) s.block)
        ∙ ap (λ (l : List ℕ). l ++ drop (s.written % 256) s.block) (sym (append-nil (take (s.written % 256) s.block)))
        ∙ ap (λ k. (take (s.written % 256) s.block ++ []) ++ drop k s.block) (omega arith) in
        let written : s.written ≡ (s.written + 0) % 2 ^ 64 = omega (arith, small) in
        λ k. record { chain = s.chain; block = block k; written = written k }

    one_more : (i : ℕ) → i < length piece → fold write_byte s (take (i + 1) piece) ≡ write_byte (fold write_byte s (take i piece)) (get_or piece i 0)
    one_more i within = ap (fold write_byte s) (take_more piece i 0 within) ∙ fold-append write_byte s (take i piece) (get_or piece i 0 ∷ [])

    fronts : (i : ℕ) → i ≤ length piece → s.written % 256 + i < 256 → fold write_byte s (take i piece) ≡ so_far i
    fronts zero within h = begun
    fronts (suc i) within h =
        let on : suc i ≡ i + 1 = omega arith in
        subst (λ n. fold write_byte s (take n piece) ≡ so_far n) (sym on)
        (one_more i (omega (arith, within)) ∙ ap (λ (t : ShaHasher). write_byte t (get_or piece i 0)) (fronts i (omega (arith, within)) (omega (arith, h))) ∙ step i (omega (arith, within)) (omega (arith, h)))

    pub piece_within : s.written % 256 + length piece < 256 → fold write_byte s piece ≡ so_far (length piece)
    piece_within h = ap (fold write_byte s) (sym (take_all (length piece) piece (omega arith))) ∙ fronts (length piece) (omega arith) h

    pub piece_full : s.written % 256 + length piece ≡ 256 → fold write_byte s piece ≡ record { chain = sha256 (s.chain ++ pasted (length piece)); block = pasted (length piece); written = (s.written + length piece) % 2 ^ 64 }
    piece_full h = by (length piece - 1) (omega (arith, h))
      where
        by : (i : ℕ) → length piece ≡ i + 1 → fold write_byte s piece ≡ record { chain = sha256 (s.chain ++ pasted (length piece)); block = pasted (length piece); written = (s.written + length piece) % 2 ^ 64 }
        by i long_ =
            ap (fold write_byte s) (sym (take_all (i + 1) piece (omega (arith, long_))))
            ∙ one_more i (omega (arith, long_))
            ∙ ap (λ (t : ShaHasher). write_byte t (get_or piece i 0)) (fronts i (omega (arith, long_)) (omega (arith, h, long_)))
            ∙ last_step i (omega (arith, long_)) (omega (arith, h, long_))
            ∙ ap (λ n. record { chain = sha256 (s.chain ++ pasted n); block = pasted n; written = (s.written + n) % 2 ^ 64 }) (sym long_)

-- ---- pieces one after another

taken_split : (xs : List ℕ) (n m : ℕ) → take (n + m) xs ≡ take n xs ++ take m (drop n xs)
taken_split xs n m =
    sym (take-append-drop n (take (n + m) xs))
    ∙ ap (λ l. l ++ drop n (take (n + m) xs)) (take-take n (n + m) xs (omega arith))
    ∙ ap (λ l. take n xs ++ l) (drop-take n m xs)

pub taken_on : (start s : ShaHasher) (bytes : List ℕ) (at end : ℕ) → end ≡ at + (end - at) → s ≡ fold write_byte start (take at bytes) → fold write_byte s (take (end - at) (drop at bytes)) ≡ fold write_byte start (take end bytes)
taken_on start s bytes at end on is =
    ap (λ (t : ShaHasher). fold write_byte t (take (end - at) (drop at bytes))) is
    ∙ sym (fold-append write_byte start (take at bytes) (take (end - at) (drop at bytes)))
    ∙ ap (fold write_byte start) (sym (taken_split bytes at (end - at)) ∙ ap (λ n. take n bytes) (sym on))
