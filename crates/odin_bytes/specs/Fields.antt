-- The fields of records: numbers with their highest byte first, and bytes after their length.
use Rattle.std.specs.Prelude.{◌≡◌, ℕ, ◌^◌, ◌<◌, ◌≤◌, List, [], ◌∷◌, ◌++◌, length, slice_range}
use Rattle.byteorder.specs.Endian.{big_bytes}

abbrev pub u8_field : ℕ → List ℕ
u8_field number = number ∷ []

abbrev pub u32_field : ℕ → List ℕ
u32_field number = big_bytes 4 number

abbrev pub u64_field : ℕ → List ℕ
u64_field number = big_bytes 8 number

abbrev pub bytes_field : List ℕ → List ℕ
bytes_field body = u32_field (length body) ++ body

-- the bytes from a place to an end are the field
pub record IsFieldAt (from : List ℕ) (at end : ℕ) (field : List ℕ) : Type 0 where
  pub in_range : (at ≤ end) × (end ≤ length from)
  pub bytes : slice_range from at end ≡ field

-- at a place stands a field of bytes, whose body starts and ends there
abbrev pub IsBodyAt : List ℕ → ℕ → ℕ → ℕ → Type 0
IsBodyAt from at start end = IsFieldAt from at end (bytes_field (slice_range from start end))

-- at a place stands no field of bytes
abbrev pub HasNoBytesAt : List ℕ → ℕ → Type 0
HasNoBytesAt from at = (body : List ℕ) (end : ℕ) → length body < 2 ^ 32 → ¬ (IsFieldAt from at end (bytes_field body))
