-- What the laws of store files say.
use Rattle.std.specs.Prelude.{◌≡◌, ℕ, List}
use Rattle.meaning_records.specs.Images.{Stored, IsStore, NotOurs}

-- An image has one list of whole records at most, and one end.
pub record RecordsAreOne : Type 0 where
  pub stored : (image : List ℕ) (records other : List (List ℕ)) → Stored records image → Stored other image → other ≡ records
  pub ends : (image : List ℕ) (records other : List (List ℕ)) (end last : ℕ) → IsStore image records end → IsStore image other last → last ≡ end

-- An image that isn't ours has no records, and isn't ours at one place alone.
pub record NotOursIsExact : Type 0 where
  pub none : (image : List ℕ) (at : ℕ) (records : List (List ℕ)) → NotOurs image at → ¬ (Stored records image)
  pub one : (image : List ℕ) (at other : ℕ) → NotOurs image at → NotOurs image other → other ≡ at
