-- The front of a store file: its marks, and the start of its records that is in use.
use Rattle.std.specs.Prelude.{◌≡◌, ℕ, ◌%◌, ◌≤◌, ◌<◌, ◌==◌, List, [], ◌∷◌, ◌++◌, length, drop, replicate, codes, if◌then◌else◌, slice_index, slice_range}
use Rattle.byteorder.specs.Endian.{big_number, big_bytes}

-- the longest store file
abbrev pub file_limit : ℕ
file_limit = 1073741824

-- the size of a front
abbrev pub front_size : ℕ
front_size = 64

-- where the records start: by the second start where the byte at 8 is odd, and else by the first
abbrev pub start_of : List ℕ → ℕ
start_of image = if slice_index image 8 % 2 == 0 then big_number 8 (slice_range image 16 24) else big_number 8 (slice_range image 24 32)

-- an image with a front. The byte at 0 may be any but 0.
pub record HasFront (image : List ℕ) : Type 0 where
  pub name : slice_range image 1 8 ≡ codes "DINSTO1"
  pub zeros : slice_range image 9 16 ≡ replicate 7 0
  pub more_zeros : slice_range image 32 64 ≡ replicate 32 0
  pub starts_behind : front_size ≤ start_of image
  pub starts_within : start_of image < length image

-- The front of a new store and its first gate: the name, the first start in use and where it is, no second start, zeros, and a closed
-- gate.
abbrev pub new_front : List ℕ
new_front = codes "ODINSTO1" ++ replicate 8 0 ++ big_bytes 8 front_size ++ replicate 40 0 ++ 0 ∷ []

-- what a file that counts as new is made
abbrev pub new_store : List ℕ → List ℕ
new_store image = new_front ++ drop 65 image
