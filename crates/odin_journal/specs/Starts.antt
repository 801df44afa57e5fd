-- The start of an image's records that is in use.
use Rattle.std.specs.Prelude.{◌≡◌, ◌%◌, ◌==◌, ℕ, List, slice_index}
use Rattle.meaning_records.specs.Front.{start_of}
use Rattle.odin_journal.specs.declared.start.Start.{Start}

-- the records of an image start at this place, by this one of its two starts
pub record IsStartOf (image : List ℕ) (start : Start) : Type 0 where
  pub place : start_of image ≡ start.place
  pub which : (slice_index image 8 % 2 == 0) ≡ start.is_first
