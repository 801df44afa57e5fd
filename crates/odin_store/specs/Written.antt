-- How much is written to add records to a store, what its file is then, and what a crash leaves of them.
use Rattle.std.specs.Prelude.{◌≡◌, ◌⊎◌, ℕ, ◌+◌, ◌*◌, List, [], ◌∷◌, ◌++◌, length}
use Rattle.odin_outside.specs.Disk.{Telling, LeavesOnly}
use Rattle.odin_journal.specs.Trails as trails
use Rattle.meaning_records.specs.Front.{new_store}
use Rattle.meaning_records.specs.Images.{gate_after, with_record, IsNew, IsWritten, Stored}
use Rattle.odin_journal.specs.Moments.{Works}
use Rattle.odin_journal.specs.Rest.{RestsOn}
use Rattle.odin_store.specs.declared.store.Store.{Store}

-- the bytes that are written for records of these payloads: a payload with its length and its gate, and the closed gate after it
abbrev pub written_in : List (List ℕ) → ℕ
written_in [] = 0
written_in (payload ∷ payloads) = length payload + 6 + written_in payloads

-- the work is that of adding these records at most: four calls for each
abbrev pub WorksFor : List (List ℕ) → Telling → Telling → Type 0
WorksFor payloads old new = Works (written_in payloads) (4 * length payloads) old new

-- the file once these records stand at the closed gate of this place, one after another, and nothing else was written
abbrev pub with_records : ℕ → List (List ℕ) → List ℕ → List ℕ
with_records gate [] image = image
with_records gate (payload ∷ payloads) image = with_records (gate_after gate payload) payloads (with_record gate payload image)

-- what a file is as the journal of a store is opened in it: a new one is made a store, and any other stays
abbrev pub StoreIsMade : List ℕ → List ℕ → Type 0
StoreIsMade image made = (IsNew image × (made ≡ new_store image)) ⊎ (IsWritten image × (made ≡ image))

-- ---- records as what a trail keeps

-- the store rests on these records, and nothing is pending
abbrev pub RecordsRest : Telling → Store → List (List ℕ) → Type 0
RecordsRest disk store records = RestsOn disk records store.journal

-- each payload is one record more
abbrev pub record_keeping : trails.Keeping (List (List ℕ)) (List ℕ) Store
record_keeping = record { apply = λ payload records. records ++ payload ∷ []; StandsFor = Stored; Rests = RecordsRest }

-- a crash at any moment leaves the records on which the store rested, and after them some first ones of these payloads
abbrev pub LeavesFirst : Store → List (List ℕ) → Telling → Telling → Type 0
LeavesFirst store payloads old new =
    (records : List (List ℕ)) → RecordsRest old store records → LeavesOnly old new (trails.IsPrefix record_keeping records 0 payloads)
