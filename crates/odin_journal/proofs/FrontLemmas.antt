-- What crashes leave while a new store file is made.
use Rattle.std.proofs.Common.{◌≡◌, ◌≢◌, inl, inr, ℕ, ◌<◌, ◌≤◌, List, [], ◌∷◌, ◌++◌, drop, length, slice_index, refl, sym, ap, subst, ◌∙◌, arith}
use Rattle.std.proofs.lemmas.Bool.{cases_eq}
use Rattle.odin_outside.specs.Disk.{Telling, Written, Torn}
use Rattle.meaning_records.specs.Front.{file_limit, new_front}
use Rattle.meaning_records.specs.Images.{IsNew, IsStore, Stored}
use Rattle.odin_journal.specs.Rest.{Clears, MakesNewStore}
use Rattle.odin_journal.proofs.AppendLemmas.{agree_index, torn_agree, torn_gate_back, torn_gate_size}

-- what is written after the byte at 0: the front of a new store without its first byte
abbrev pub blank : List ℕ
blank = drop 1 new_front

-- a file of at most one byte stays so while its first byte is written
pub torn_first : (image c : List ℕ) → length image ≤ 1 → Torn 0 1 image c → IsNew c
torn_first image c short torn = record { within = omega (arith, torn.no_longer); blank = inl (omega (arith, torn.no_longer)) }

pub zero_written : (image c : List ℕ) → Written image 0 (0 ∷ []) c → slice_index c 0 ≡ 0
zero_written image c written = ap (λ l. slice_index l 0) written

-- a file whose first byte is 0 counts as new while the rest of its front is written
pub torn_front : (image c : List ℕ) → 1 ≤ length image → slice_index image 0 ≡ 0 → length image ≤ file_limit → Torn 1 64 image c → IsNew c
torn_front image c some zero_first within torn = record {
  within = omega (arith, torn.no_longer);
  blank = inr (agree_index 1 image c (torn_agree 1 64 image c some torn) 0 (omega arith) ∙ zero_first);
}

pub front_written : (image c : List ℕ) → 1 ≤ length image → slice_index image 0 ≡ 0 → Written image 1 blank c → c ≡ 0 ∷ (blank ++ drop 65 image)
front_written [] c some zero_first written = absurd (omega (arith, some))
front_written (x ∷ image) c some zero_first written = written ∙ ap (λ b. b ∷ (blank ++ drop 64 image)) zero_first

-- a new store without records
pub fresh_store : (mark : ℕ) (rest : List ℕ) → mark ≢ 0 → length (mark ∷ (blank ++ rest)) ≤ file_limit → IsStore (mark ∷ (blank ++ rest)) [] 64
fresh_store mark rest some within = record {
  written = record { within = within; some = omega arith; marked = some };
  front = record { name = refl; zeros = refl; more_zeros = refl; starts_behind = omega arith; starts_within = omega arith };
  whole = refl;
  closed = record { within = omega arith; other = omega arith };
}

with_first : (c : List ℕ) → 0 < length c → c ≡ slice_index c 0 ∷ drop 1 c
with_first [] some = absurd (omega (arith, some))
with_first (x ∷ c) some = refl

pub torn_mark_is : (image c rest : List ℕ) → image ≡ 0 ∷ (blank ++ rest) → Torn 0 1 image c → c ≡ slice_index c 0 ∷ (blank ++ rest)
torn_mark_is image c rest is torn =
    let size = torn_gate_size image c 0 (omega (arith, ap length is)) torn in
    with_first c (omega (arith, ap length is)) ∙ ap (λ l. slice_index c 0 ∷ l) (torn_gate_back image c 0 (omega (arith, ap length is)) torn ∙ ap (drop 1) is)

-- a written front is a new store as soon as the byte at 0 isn't 0
pub torn_mark : (image c rest : List ℕ) → image ≡ 0 ∷ (blank ++ rest) → length image ≤ file_limit → Torn 0 1 image c → Stored [] c
torn_mark image c rest is within torn =
    let c_is = torn_mark_is image c rest is torn in
    let size = torn_gate_size image c 0 (omega (arith, ap length is)) torn in
    let short : length c ≤ file_limit = omega arith in
    elim (cases_eq (slice_index c 0) 0) [
      | inl zero_first ↦ inl (record { within = short; blank = inr zero_first }, refl)
      | inr some ↦ inr (64, subst (λ l. IsStore l [] 64) (sym c_is) (fresh_store (slice_index c 0) rest some (subst (λ l. length l ≤ file_limit) c_is short)))
    ]

pub marked : (image c rest : List ℕ) → image ≡ 0 ∷ (blank ++ rest) → length image ≤ file_limit → Torn 0 1 image c → Written image 0 (79 ∷ []) c → IsStore c [] 64
marked image c rest is within torn written =
    let c_is = torn_mark_is image c rest is torn in
    let size = torn_gate_size image c 0 (omega (arith, ap length is)) torn in
    let short : length c ≤ file_limit = omega arith in
    let some : slice_index c 0 ≢ 0 = subst (λ b. b ≢ 0) (sym (ap (λ l. slice_index l 0) written)) (omega arith) in
    subst (λ l. IsStore l [] 64) (sym c_is) (fresh_store (slice_index c 0) rest some (subst (λ l. length l ≤ file_limit) c_is short))

-- and its bytes
pub marked_bytes : (image c rest : List ℕ) → image ≡ 0 ∷ (blank ++ rest) → Torn 0 1 image c → Written image 0 (79 ∷ []) c → c ≡ new_front ++ rest
marked_bytes image c rest is torn written =
    torn_mark_is image c rest is torn ∙ ap (λ b. b ∷ (blank ++ rest)) (ap (λ l. slice_index l 0) written)

-- a store that was made of a file whose byte at 0 was written first
pub makes_on : (old mid new : Telling) → Clears old mid → MakesNewStore mid new → MakesNewStore old new
makes_on old mid new clears makes = record { rests = makes.rests; bytes = makes.bytes ∙ ap (λ rest. new_front ++ rest) clears.back }
