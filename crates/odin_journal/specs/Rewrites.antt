-- The replacing of all records of a store file by others: the bytes of the copy, where it is put, and what the file is then.
use Rattle.std.specs.Prelude.{◌≡◌, ◌⊎◌, ℕ, ◌+◌, ◌≤◌, ◌<◌, ◌==◌, Bool, true, false, not, IsFalse, ⊤, List, [], ◌∷◌, ◌++◌, length, take, drop, sum_by, flat_map, if◌then◌else◌, Result, Ok, Err, IfOk, IfErr}
use Rattle.byteorder.specs.Endian.{big_bytes}
use Rattle.odin_bytes.specs.Fields.{bytes_field}
use Rattle.odin_outside.specs.Disk.{Telling, IsQuiet, LeavesOnly}
use Rattle.meaning_records.specs.Front.{file_limit, front_size}
use Rattle.meaning_records.specs.Images.{AreRecords, IsClosed, Stored}
use Rattle.odin_journal.specs.declared.fault.JournalFault.{JournalFault}
use Rattle.odin_journal.specs.declared.fault.JournalFault.TheVariants as fault
use Rattle.odin_journal.specs.declared.journal.Journal.{Journal}
use Rattle.odin_journal.specs.declared.start.Start.{Start}
use Rattle.odin_journal.specs.Faults.{IsReadFault, nowhere}
use Rattle.odin_journal.specs.Rest.{AtRest, RestsOn}
use Rattle.odin_journal.specs.Starts.{IsStartOf}

-- ---- the copy

-- a record: an open gate, a length and the payload
abbrev pub record_bytes : List ℕ → List ℕ
record_bytes payload = 1 ∷ bytes_field payload

-- its size
abbrev pub record_size : List ℕ → ℕ
record_size payload = length payload + 5

-- records that follow each other, and a closed gate after them
abbrev pub copy_of : List (List ℕ) → List ℕ
copy_of records = flat_map record_bytes records ++ 0 ∷ []

-- the sizes of records
abbrev pub size_of_records : List (List ℕ) → ℕ
size_of_records records = sum_by record_size records

abbrev pub copy_size : List (List ℕ) → ℕ
copy_size records = size_of_records records + 1

-- ---- where it is put

-- A copy of so many bytes is put at 64 where it ends at or before the start in use. Else it is put after the closed gate at the end,
-- where it ends within the longest file.
abbrev pub IsCopyPlace : ℕ → ℕ → ℕ → ℕ → Type 0
IsCopyPlace start end size place =
    ((front_size + size ≤ start) × (place ≡ front_size)) ⊎ ((start < front_size + size) × (end + 1 + size ≤ file_limit) × (place ≡ end + 1))

-- else it fits in neither place
abbrev pub FitsNowhere : ℕ → ℕ → ℕ → Type 0
FitsNowhere start end size = (start < front_size + size) × (file_limit < end + 1 + size)

-- ---- the bytes of the file

-- an image once these bytes were written at a place
abbrev pub with_bytes : ℕ → List ℕ → List ℕ → List ℕ
with_bytes at bytes image = take at image ++ bytes ++ drop (at + length bytes) image

-- where the front holds the first start, or the second
abbrev pub start_field : Bool → ℕ
start_field is_first = if is_first then 16 else 24

-- the byte at 8 that says that the first start is in use, or the second
abbrev pub use_byte : Bool → ℕ
use_byte is_first = if is_first then 0 else 1

-- a start was written, and then the byte that says that it is in use
abbrev pub with_start : Start → List ℕ → List ℕ
with_start start image = with_bytes 8 (use_byte start.is_first ∷ []) (with_bytes (start_field start.is_first) (big_bytes 8 start.place) image)

-- a copy at 64 has nothing after it
abbrev pub without_rest : ℕ → ℕ → List ℕ → List ℕ
without_rest place size image = if place == front_size then take (place + size) image else image

-- the copy was written where the start leads, and then the start
abbrev pub with_copy : Start → List (List ℕ) → List ℕ → List ℕ
with_copy start records image = without_rest start.place (copy_size records) (with_start start (with_bytes start.place (copy_of records) image))

-- ---- what the steps of a rewrite do

-- the records from before, or those of the copy
abbrev pub OldOrNew : List (List ℕ) → List (List ℕ) → List ℕ → Type 0
OldOrNew before records image = Stored before image ⊎ Stored records image

-- Records were copied to where a start leads that isn't the one in use: they stand there, and the records from before still count.
pub record HasCopy (disk : Telling) (start : Start) (before records : List (List ℕ)) (last : ℕ) : Type 0 where
  pub used : Start
  pub end : ℕ
  pub rests : AtRest disk before end
  pub starts : IsStartOf disk.seen used
  pub other : start.is_first ≡ not used.is_first
  pub behind_front : front_size ≤ start.place
  pub whole : AreRecords disk.seen start.place records last
  pub closed : IsClosed disk.seen last

-- the start is the one in use
pub record Starts (disk : Telling) (start : Start) (records : List (List ℕ)) (last : ℕ) : Type 0 where
  pub rests : AtRest disk records last
  pub starts : IsStartOf disk.seen start

-- the start of a copy comes into use
abbrev pub Switches : Start → Telling → Telling → Type 0
Switches start old new = (before records : List (List ℕ)) (last : ℕ) → HasCopy old start before records last → Starts new start records last

-- and a crash at any moment leaves the records from before or those of the copy
abbrev pub LeavesSwitched : Start → Telling → Telling → Type 0
LeavesSwitched start old new = (before records : List (List ℕ)) (last : ℕ) → HasCopy old start before records last → LeavesOnly old new (OldOrNew before records)

-- just the start and the byte at 8 are written
abbrev pub WritesStart : Start → Telling → Telling → Type 0
WritesStart start old new = IsQuiet old → IsQuiet new × (new.seen ≡ with_start start old.seen)

-- what stands after a copy at 64 is taken away, and the copy and its start stay
pub record Shortens (place size : ℕ) (old new : Telling) : Type 0 where
  pub starts : (start : Start) (records : List (List ℕ)) (last : ℕ) → last + 1 ≡ place + size → Starts old start records last → Starts new start records last
  pub bytes : IsQuiet old → new.seen ≡ without_rest place size old.seen

-- and a crash at any moment leaves the records of the copy
abbrev pub LeavesShortened : ℕ → ℕ → Telling → Telling → Type 0
LeavesShortened place size old new = (records : List (List ℕ)) (last : ℕ) → last + 1 ≡ place + size → AtRest old records last → LeavesOnly old new (Stored records)

-- A copy of records may be put where a start leads that isn't the one in use.
pub record MayCopy (disk : Telling) (start : Start) (copy : List ℕ) (before records : List (List ℕ)) : Type 0 where
  pub used : Start
  pub end : ℕ
  pub rests : AtRest disk before end
  pub starts : IsStartOf disk.seen used
  pub other : start.is_first ≡ not used.is_first
  pub placed : IsCopyPlace used.place end (copy_size records) start.place
  pub copy_is : copy ≡ copy_of records

-- then it is put there
abbrev pub Copies : Start → List ℕ → Telling → Telling → Type 0
Copies start copy old new = (before records : List (List ℕ)) → MayCopy old start copy before records → HasCopy new start before records (start.place + size_of_records records)

-- and a crash at any moment leaves the records from before
abbrev pub LeavesCopied : Start → List ℕ → Telling → Telling → Type 0
LeavesCopied start copy old new = (before records : List (List ℕ)) → MayCopy old start copy before records → LeavesOnly old new (Stored before)

abbrev pub PutsCopy : Start → List ℕ → Telling → Telling → Type 0
PutsCopy start copy old new = IsQuiet old → IsQuiet new × (new.seen ≡ with_bytes start.place copy old.seen)

-- the records are replaced by those of the copy
abbrev pub ReplacesBy : Start → List ℕ → Telling → Telling → Type 0
ReplacesBy start copy old new = (before records : List (List ℕ)) → MayCopy old start copy before records → Starts new start records (start.place + size_of_records records)

abbrev pub LeavesEither : Start → List ℕ → Telling → Telling → Type 0
LeavesEither start copy old new = (before records : List (List ℕ)) → MayCopy old start copy before records → LeavesOnly old new (OldOrNew before records)

abbrev pub WritesCopy : Start → List ℕ → Telling → Telling → Type 0
WritesCopy start copy old new = IsQuiet old → new.seen ≡ without_rest start.place (length copy) (with_start start (with_bytes start.place copy old.seen))

-- ---- the whole of it

-- The records are replaced by these: a journal that rested on others rests on them, and just the copy and its start were written.
pub record Replaces (journal next : Journal) (records : List (List ℕ)) (old new : Telling) : Type 0 where
  pub placed : IsCopyPlace journal.start.place journal.end (copy_size records) next.start.place
  pub other : next.start.is_first ≡ not journal.start.is_first
  pub end : next.end ≡ next.start.place + size_of_records records
  pub rests : (before : List (List ℕ)) → RestsOn old before journal → RestsOn new records next
  pub bytes : IsQuiet old → new.seen ≡ with_copy next.start records old.seen

-- where they were
abbrev pub ReplacesWhere : Journal → Journal → List (List ℕ) → Telling → Telling → Bool → Type 0
ReplacesWhere journal next records old new true = Replaces journal next records old new
ReplacesWhere journal next records old new false = ⊤

-- a crash at any moment leaves the records on which the journal rested, or these
abbrev pub LeavesReplaced : Journal → List (List ℕ) → Telling → Telling → Type 0
LeavesReplaced journal records old new = (before : List (List ℕ)) → RestsOn old before journal → LeavesOnly old new (OldOrNew before records)

-- `false` is answered exactly where the copy fits in neither place, and a fault is of the disk or of memory.
pub record IsFit (start end size : ℕ) (result : Result Bool JournalFault) : Type 0 where
  pub let_be : IfOk result (λ done. IsFalse done → FitsNowhere start end size)
  pub exact : FitsNowhere start end size → result ≡ Ok false
  pub err : IfErr result (IsReadFault nowhere)

-- an answer that tells that nothing was begun
abbrev pub IsLetBe : Result Bool JournalFault → Type 0
IsLetBe (Ok true) = ⊥
IsLetBe (Ok false) = ⊤
IsLetBe (Err fault.Disk) = ⊥
IsLetBe (Err other) = ⊤
