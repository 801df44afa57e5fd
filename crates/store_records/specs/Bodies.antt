-- Where the body of a field of bytes stands.
use Rattle.std.specs.Prelude.{ℕ, ◌≤◌, List, length, slice_range}
use Rattle.meaning_records.specs.Forms.{ParsesAt, bytes}

-- at a place stands a field of bytes, whose body is from start to end
pub record HasBody (from : List ℕ) (at start end : ℕ) : Type 0 where
  pub inside : (start ≤ end) × (end ≤ length from)
  pub stands : ParsesAt bytes from at end (slice_range from start end)
