-- What the bytes of a store file stand for: its whole records and where they end, or that it isn't ours.
use Rattle.std.specs.Prelude.{◌≡◌, ◌≢◌, ◌⊎◌, ℕ, ◌+◌, ◌^◌, ◌≤◌, ◌<◌, List, [], ◌∷◌, ◌++◌, length, take, drop, slice_index}
use Rattle.odin_bytes.specs.Fields.{bytes_field, IsFieldAt}
use Rattle.meaning_records.specs.Front.{file_limit, start_of, HasFront}

-- A file that counts as new and is made anew.
pub record IsNew (image : List ℕ) : Type 0 where
  pub within : length image ≤ file_limit
  pub blank : (length image ≤ 1) ⊎ (slice_index image 0 ≡ 0)

-- a file that doesn't count as new
pub record IsWritten (image : List ℕ) : Type 0 where
  pub within : length image ≤ file_limit
  pub some : 1 < length image
  pub marked : slice_index image 0 ≢ 0

-- at this place a gate is open
pub record IsOpen (image : List ℕ) (gate : ℕ) : Type 0 where
  pub within : gate < length image
  pub one : slice_index image gate ≡ 1

-- at this place a gate is closed
pub record IsClosed (image : List ℕ) (gate : ℕ) : Type 0 where
  pub within : gate < length image
  pub other : slice_index image gate ≢ 1

-- the place of the gate after a record of this payload
abbrev pub gate_after : ℕ → List ℕ → ℕ
gate_after gate payload = gate + 5 + length payload

-- the image once a record stands at the closed gate of this place: an open gate, a length, the payload and a closed gate
abbrev pub with_record : ℕ → List ℕ → List ℕ → List ℕ
with_record gate payload image = take gate image ++ 1 ∷ (bytes_field payload ++ 0 ∷ drop (gate + 6 + length payload) image)

-- after an open gate stand a length and the payload, and then there is a next gate
pub record IsRecord (image : List ℕ) (gate : ℕ) (payload : List ℕ) : Type 0 where
  pub opened : IsOpen image gate
  pub short : length payload < 2 ^ 32
  pub body : IsFieldAt image (gate + 1) (gate_after gate payload) (bytes_field payload)
  pub next : gate_after gate payload < length image

-- these records follow each other from one gate to another
abbrev pub AreRecords : List ℕ → ℕ → List (List ℕ) → ℕ → Type 0
AreRecords image gate [] end = end ≡ gate
AreRecords image gate (payload ∷ records) end = IsRecord image gate payload × AreRecords image (gate_after gate payload) records end

-- A store: the whole records from the start in use on, and the closed gate that ends them. What lies after it has no meaning.
pub record IsStore (image : List ℕ) (records : List (List ℕ)) (end : ℕ) : Type 0 where
  pub written : IsWritten image
  pub front : HasFront image
  pub whole : AreRecords image (start_of image) records end
  pub closed : IsClosed image end

-- the whole records of an image
abbrev pub Stored : List (List ℕ) → List ℕ → Type 0
Stored records image = (IsNew image × (records ≡ [])) ⊎ ((end : ℕ) × IsStore image records end)

-- an open gate after whole records, with no record
pub record BreaksAt (image : List ℕ) (gate : ℕ) : Type 0 where
  pub written : IsWritten image
  pub front : HasFront image
  pub records : List (List ℕ)
  pub whole : AreRecords image (start_of image) records gate
  pub opened : IsOpen image gate
  pub none : (payload : List ℕ) → ¬ (IsRecord image gate payload)

-- A file isn't ours: at 0 where it is too long or has no front, and else at the gate where it breaks.
abbrev pub NotOurs : List ℕ → ℕ → Type 0
NotOurs image at = ((file_limit < length image) × (at ≡ 0)) ⊎ ((IsWritten image × ¬ (HasFront image) × (at ≡ 0)) ⊎ BreaksAt image at)
