-- Worked examples of the replacing of records.
use Rattle.std.specs.Prelude.{◌≡◌, ℕ, List, [], ◌∷◌, ◌++◌, true, false, replicate, codes}
use Rattle.meaning_records.specs.Front.{new_store}
use Rattle.meaning_records.specs.Images.{with_record}
use Rattle.odin_journal.specs.Rewrites.{copy_of, copy_size, IsCopyPlace, FitsNowhere, with_copy}

-- a store with the record `hi`
abbrev pub with_hi : List ℕ
with_hi = with_record 64 (codes "hi") (new_store [])

-- a record of two bytes and a closed gate
abbrev pub copy_of_two : List ℕ → List ℕ
copy_of_two two = 1 ∷ 0 ∷ 0 ∷ 0 ∷ 2 ∷ (two ++ 0 ∷ [])

-- the front once the second start is 72, and what is in use
abbrev pub with_second : ℕ → List ℕ
with_second used = codes "ODINSTO1" ++ used ∷ replicate 14 0 ++ 64 ∷ replicate 7 0 ++ 72 ∷ replicate 32 0

-- The copy of a record, and of none.
pub record BytesOfCopies : Type 0 where
  pub one : copy_of (codes "yo" ∷ []) ≡ copy_of_two (codes "yo")
  pub one_size : copy_size (codes "yo" ∷ []) ≡ 8
  pub none : copy_of [] ≡ 0 ∷ []
  pub none_size : copy_size [] ≡ 1

-- Where copies are put beside the record `hi` at 64, and beside one at 72.
pub record PlacesOfCopies : Type 0 where
  -- nothing fits before a start at 64
  pub behind : IsCopyPlace 64 71 8 72
  pub least : IsCopyPlace 64 71 1 72
  -- a copy that ends at the start in use, and one that ends past it
  pub before : IsCopyPlace 72 79 8 64
  pub past : IsCopyPlace 72 79 9 80
  -- a copy that ends with the longest file, and one that would end past it
  pub longest : IsCopyPlace 64 71 1073741752 72
  pub nowhere : FitsNowhere 64 71 1073741753
  -- before a start that is high there is room all the same
  pub high : IsCopyPlace 1073741800 1073741820 1073741736 64
  pub too_high : FitsNowhere 1073741800 1073741820 1073741737

-- `hi` is replaced by `yo`, which is put after it, and that by `ok`, which is put at 64 and has nothing after it.
pub record BytesOfRewrites : Type 0 where
  pub behind : with_copy (record { place = 72; is_first = false }) (codes "yo" ∷ []) with_hi ≡ with_second 1 ++ copy_of_two (codes "hi") ++ copy_of_two (codes "yo")
  pub before :
      with_copy (record { place = 64; is_first = true }) (codes "ok" ∷ []) (with_second 1 ++ copy_of_two (codes "hi") ++ copy_of_two (codes "yo"))
      ≡ with_second 0 ++ copy_of_two (codes "ok")
