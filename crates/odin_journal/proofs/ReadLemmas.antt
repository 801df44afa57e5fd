-- What the bytes at a gate tell of a record there.
use Rattle.std.proofs.Common.{◌≡◌, ℕ, ◌+◌, ◌-◌, ◌<◌, ◌≤◌, ◌^◌, List, take, drop, length, slice_index, slice_range, sym, ap, subst, ◌∙◌, arith, append_assoc, drop-drop}
use Rattle.std.proofs.lemmas.List.{get_or-take, get_or-drop}
use Rattle.odin_bytes.specs.Fields.{u32_field, bytes_field, IsFieldAt}
use Rattle.odin_bytes.specs.FieldLemmas.{body_at, field_front, u32_front, length-slice_range}
use Rattle.meaning_records.specs.Images.{gate_after, IsOpen, IsRecord}
use Rattle.odin_journal.proofs.AppendLemmas.{range_of_front}
use Rattle.odin_journal.proofs.PieceLemmas.{part}

-- what was read at a gate: at least a gate, and the number that stands after it
pub record Head (image head : List ℕ) (gate count : ℕ) : Type 0 where
  pub read : head ≡ slice_range image gate (gate + count)
  pub within : gate + count ≤ length image
  pub one : slice_index head 0 ≡ 1

head_length : (image head : List ℕ) (gate count : ℕ) → Head image head gate count → length head ≡ count
head_length image head gate count read = ap length read.read ∙ length-slice_range image gate (gate + count) read.within ∙ (let size : gate + count - gate ≡ count = omega arith in size)

-- the first byte that was read there
pub first_there : (image head : List ℕ) (gate count : ℕ) → head ≡ slice_range image gate (gate + count) → 0 < count → slice_index image gate ≡ slice_index head 0
first_there image head gate count read some =
    ap (λ n. slice_index image n) (let all : gate ≡ gate + 0 = omega arith in all) ∙ sym (get_or-drop gate image 0 0) ∙ sym (get_or-take count (drop gate image) 0 0 some)
    ∙ ap (λ l. slice_index l 0) (sym (read ∙ part image gate count))

pub opened : (image head : List ℕ) (gate count : ℕ) → Head image head gate count → 0 < count → IsOpen image gate
opened image head gate count read some =
    let within = read.within in
    record {
      within = omega arith;
      one = first_there image head gate count read.read some ∙ read.one;
    }

-- the length after the gate, in the image
pub length_there : (image head : List ℕ) (gate count number : ℕ) → Head image head gate count → IsFieldAt head 1 5 (u32_field number) → IsFieldAt image (gate + 1) (gate + 5) (u32_field number)
length_there image head gate count number read field =
    let long : 5 ≤ count = omega (arith, head_length image head gate count read, field.in_range) in
    let within = read.within in
    let here : slice_range head 1 5 ≡ take 4 (drop (gate + 1) image) = ap (λ l. slice_range l 1 5) (read.read ∙ part image gate count) ∙ sym (range_of_front (drop gate image) count 1 5 (omega arith) long) ∙ ap (take 4) (drop-drop 1 gate image) in
    let four : gate + 5 - (gate + 1) ≡ 4 = omega arith in
    record { in_range = (omega arith, omega arith); bytes = ap (λ n. take n (drop (gate + 1) image)) four ∙ sym here ∙ field.bytes }

-- a payload that was read after them makes a record
pub record_read : (image head payload : List ℕ) (gate count number : ℕ) → Head image head gate count → IsFieldAt head 1 5 (u32_field number) → number < 2 ^ 32 → 6 + number ≤ length image - gate
    → payload ≡ slice_range image (gate + 5) (gate + 5 + number) → IsRecord image gate payload
record_read image head payload gate count number read field small room is =
    let long : 5 ≤ count = omega (arith, head_length image head gate count read, field.in_range) in
    let size : length payload ≡ number = ap length is ∙ length-slice_range image (gate + 5) (gate + 5 + number) (omega arith) ∙ omega arith in
    let body = body_at image (gate + 1) (gate + 5) (gate + 5 + number) number (length_there image head gate count number read field) (omega arith) (omega arith) in
    record {
      opened = opened image head gate count read (omega arith);
      short = subst (λ n. n < 2 ^ 32) (sym size) small;
      body = subst (λ end. IsFieldAt image (gate + 1) end (bytes_field payload)) (ap (λ n. gate + 5 + n) (sym size)) (subst (λ l. IsFieldAt image (gate + 1) (gate + 5 + number) (bytes_field l)) (sym is) body);
      next = omega arith;
    }

-- where the payload and a gate after it don't fit, there is none
pub no_record : (image head payload : List ℕ) (gate count number : ℕ) → Head image head gate count → IsFieldAt head 1 5 (u32_field number) → number < 2 ^ 32 → length image - gate < 6 + number → IsRecord image gate payload → ⊥
no_record image head payload gate count number read field small short there =
    let front = field_front image (gate + 1) (gate + 5) (u32_field number) (length_there image head gate count number read field) in
    let whole = field_front image (gate + 1) (gate_after gate payload) (bytes_field payload) there.body in
    let same = u32_front number (length payload) _ _ small there.short (sym front ∙ whole ∙ append_assoc (u32_field (length payload)) payload _) in
    let next = there.next in
    omega (arith, same.0)
