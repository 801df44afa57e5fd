-- Where fields stand, and what their bytes tell.
use Rattle.std.proofs.Common.{◌≡◌, ℕ, ◌+◌, ◌-◌, ◌<◌, ◌≤◌, ◌^◌, List, ◌++◌, length, take, drop, get_or, inl, inr, slice_range, sym, ap, subst, ◌∙◌, arith, length-append, length-drop, drop-drop, append_assoc, refl}
use Rattle.std.specs.Int.{w32, w64, from_be_bytes}
use Rattle.std.proofs.Math.Seq.{take-add, take-append_seam, drop-append_seam}
use Rattle.std.proofs.lemmas.Bool.{cases_lt}
use Rattle.std.proofs.lemmas.List.{length-take, length-take-le, get_or-take, get_or-drop, get_or_past, take_all, take-append-drop}
use Rattle.std.proofs.lemmas.Nat.{be_bytes_8, from_be_bytes-to_be_bytes_4, from_be_bytes-to_be_bytes_8}
use Rattle.byteorder.specs.Endian.{big_number}
use Rattle.odin_bytes.specs.Fields.{u32_field, u64_field, bytes_field, IsFieldAt, HasNoBytesAt}

-- a number's field is of it alone
pub u32_injective : (m n : ℕ) → m < 2 ^ 32 → n < 2 ^ 32 → u32_field m ≡ u32_field n → m ≡ n
u32_injective m n small_m small_n is = sym (from_be_bytes-to_be_bytes_4 m small_m) ∙ ap (from_be_bytes w32) is ∙ from_be_bytes-to_be_bytes_4 n small_n

pub u64_injective : (m n : ℕ) → m < 2 ^ 64 → n < 2 ^ 64 → u64_field m ≡ u64_field n → m ≡ n
u64_injective m n small_m small_n is = sym (from_be_bytes-to_be_bytes_8 m small_m) ∙ ap (from_be_bytes w64) is ∙ from_be_bytes-to_be_bytes_8 n small_n

-- eight bytes are the field of their number
pub eight_bytes : (bytes : List ℕ) (number : ℕ) → length bytes ≡ 8 → ((i : ℕ) → get_or bytes i 0 < 256) → number ≡ big_number 8 bytes → bytes ≡ u64_field number
eight_bytes bytes number eight small is = sym (be_bytes_8 bytes number eight small (is ∙ omega arith))

pub length-slice_range : (from : List ℕ) (at end : ℕ) → end ≤ length from → length (slice_range from at end) ≡ end - at
length-slice_range from at end within = length-take-le (end - at) (drop at from) (omega (arith, length-drop at from))

-- a part of bytes is of bytes
pub small_take : (n : ℕ) (bytes : List ℕ) → ((i : ℕ) → get_or bytes i 0 < 256) → (i : ℕ) → get_or (take n bytes) i 0 < 256
small_take n bytes small i = elim (cases_lt i n) [
  | inl before ↦ subst (λ b. b < 256) (sym (get_or-take n bytes i 0 before)) (small i)
  | inr past ↦ subst (λ b. b < 256) (sym (get_or_past (take n bytes) i 0 (omega (arith, length-take n bytes)))) (omega arith)
]

-- what a read of eight bytes from a place finds
pub eight_at : (from rest field : List ℕ) (at number : ℕ) → rest ≡ slice_range from at (length from) → field ≡ slice_range rest 0 8 → 8 ≤ length rest → ((i : ℕ) → get_or from i 0 < 256) → number ≡ big_number 8 field → IsFieldAt from at (at + 8) (u64_field number)
eight_at from rest field at number rest_is field_is long small is =
    let whole : rest ≡ drop at from = rest_is ∙ take_all (length from - at) (drop at from) (omega (arith, length-drop at from)) in
    let size : 8 ≤ length from - at = omega (arith, ap length whole, length-drop at from) in
    let eight : length field ≡ 8 = ap length field_is ∙ length-take-le 8 rest long in
    let bytes_small : (i : ℕ) → get_or rest i 0 < 256 = subst (λ l. (i : ℕ) → get_or l i 0 < 256) (sym whole) (λ i. subst (λ b. b < 256) (sym (get_or-drop at from i 0)) (small (at + i))) in
    let field_small = subst (λ l. (i : ℕ) → get_or l i 0 < 256) (sym field_is) (small_take 8 rest bytes_small) in
    let end : at + 8 - at ≡ 8 = omega arith in
    record {
      in_range = (omega arith, omega arith);
      bytes = ap (λ n. take n (drop at from)) end ∙ ap (take 8) (sym whole) ∙ sym field_is ∙ eight_bytes field number eight field_small is;
    }

-- the bytes from a place to an end by way of a place between
pub slice_range-split : (from : List ℕ) (at middle end : ℕ) → at ≤ middle → middle ≤ end → slice_range from at end ≡ slice_range from at middle ++ slice_range from middle end
slice_range-split from at middle end first second =
    let whole : end - at ≡ (middle - at) + (end - middle) = omega arith in
    let rest : drop (middle - at) (drop at from) ≡ drop middle from = drop-drop (middle - at) at from ∙ ap (λ n. drop n from) (let sum : at + (middle - at) ≡ middle = omega arith in sum) in
    ap (λ n. take n (drop at from)) whole ∙ take-add (middle - at) (end - middle) (drop at from) ∙ ap (λ l. take (middle - at) (drop at from) ++ take (end - middle) l) rest

-- after a length stand the bytes of a body
pub body_at : (from : List ℕ) (at start end number : ℕ) → IsFieldAt from at start (u32_field number) → end ≡ start + number → end ≤ length from → IsFieldAt from at end (bytes_field (slice_range from start end))
body_at from at start end number field is within =
    let long : length (slice_range from start end) ≡ number = length-slice_range from start end within ∙ omega arith in
    record { in_range = (omega (arith, field.in_range), within); bytes = slice_range-split from at start end field.in_range.0 (omega arith) ∙ ap (λ bytes. bytes ++ slice_range from start end) field.bytes ∙ ap (λ n. u32_field n ++ slice_range from start end) (sym long) }

-- where too few bytes stand after a length, there is no field of bytes
pub no_body_at : (from : List ℕ) (at start number : ℕ) → start ≡ at + 4 → number < 2 ^ 32 → IsFieldAt from at start (u32_field number) → length from < start + number → HasNoBytesAt from at
no_body_at from at start number next small length_field short body end fits field =
    let size : end - at ≡ 4 + length body = sym (length-slice_range from at end field.in_range.1) ∙ ap length field.bytes ∙ length-append (u32_field (length body)) body in
    let first = slice_range from at start in
    let rest = slice_range from start end in
    let four : 4 ≡ length first = sym (length-slice_range from at start length_field.in_range.1 ∙ omega arith) in
    let front : first ≡ take 4 (slice_range from at end) = sym (ap (take 4) (slice_range-split from at start end length_field.in_range.0 (omega (arith, field.in_range))) ∙ ap (λ n. take n (first ++ rest)) four ∙ take-append_seam first rest) in
    let same : number ≡ length body = u32_injective number (length body) small fits (sym length_field.bytes ∙ front ∙ ap (take 4) field.bytes) in
    omega (arith, field.in_range, length_field.in_range)

-- there is none either where not even a length fits
pub no_length_at : (from : List ℕ) (at : ℕ) → length from < at + 4 → HasNoBytesAt from at
no_length_at from at short body end fits field =
    let size : end - at ≡ 4 + length body = sym (length-slice_range from at end field.in_range.1) ∙ ap length field.bytes ∙ length-append (u32_field (length body)) body in
    omega (arith, field.in_range)

-- two fronts of one length that begin the same are the same, and so are the rests
fronts : (n : ℕ) (a b behind rest : List ℕ) → length a ≡ n → length b ≡ n → a ++ behind ≡ b ++ rest → (a ≡ b) × (behind ≡ rest)
fronts n a b behind rest long also is = (
  sym (take-append_seam a behind) ∙ ap (λ n. take n (a ++ behind)) (long ∙ sym also) ∙ ap (take (length b)) is ∙ take-append_seam b rest,
  sym (drop-append_seam a behind) ∙ ap (λ n. drop n (a ++ behind)) (long ∙ sym also) ∙ ap (drop (length b)) is ∙ drop-append_seam b rest,
)

pub u32_front : (m n : ℕ) (behind rest : List ℕ) → m < 2 ^ 32 → n < 2 ^ 32 → u32_field m ++ behind ≡ u32_field n ++ rest → (m ≡ n) × (behind ≡ rest)
u32_front m n behind rest small_m small_n is = let both = fronts 4 (u32_field m) (u32_field n) behind rest refl refl is in (u32_injective m n small_m small_n both.0, both.1)

pub u64_front : (m n : ℕ) (behind rest : List ℕ) → m < 2 ^ 64 → n < 2 ^ 64 → u64_field m ++ behind ≡ u64_field n ++ rest → (m ≡ n) × (behind ≡ rest)
u64_front m n behind rest small_m small_n is = let both = fronts 8 (u64_field m) (u64_field n) behind rest refl refl is in (u64_injective m n small_m small_n both.0, both.1)

pub body_front : (a b behind rest : List ℕ) → length a < 2 ^ 32 → length b < 2 ^ 32 → bytes_field a ++ behind ≡ bytes_field b ++ rest → (a ≡ b) × (behind ≡ rest)
body_front a b behind rest small_a small_b is =
    let lengths = u32_front (length a) (length b) (a ++ behind) (b ++ rest) small_a small_b (sym (append_assoc (u32_field (length a)) a behind) ∙ is ∙ append_assoc (u32_field (length b)) b rest) in
    fronts (length b) a b behind rest lengths.0 refl lengths.1

-- the bytes from the place of a field on are the field and what is after it
pub field_front : (from : List ℕ) (at end : ℕ) (field : List ℕ) → IsFieldAt from at end field → drop at from ≡ field ++ drop (end - at) (drop at from)
field_front from at end field there = sym (take-append-drop (end - at) (drop at from)) ∙ ap (λ l. l ++ drop (end - at) (drop at from)) there.bytes
