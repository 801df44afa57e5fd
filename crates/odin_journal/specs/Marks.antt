-- The marks of a front.
use Rattle.std.specs.Prelude.{◌≡◌, ℕ, List, replicate, codes, slice_range}

-- the name of the format, and the zeros after it and at the end
pub record HasMarks (front : List ℕ) : Type 0 where
  pub name : slice_range front 1 8 ≡ codes "DINSTO1"
  pub zeros : slice_range front 9 16 ≡ replicate 7 0
  pub more_zeros : slice_range front 32 64 ≡ replicate 32 0
