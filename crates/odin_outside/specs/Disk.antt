-- The model of a disk: what is pending since its last sync, what a crash may leave of that, and what a disk tells of itself.
use Rattle.std.specs.Prelude.{◌≡◌, ◌⊎◌, ◌<◌, ℕ, ◌+◌, ◌-◌, ◌≤◌, min, max, Bool, IsTrue, List, [], ◌∷◌, ◌++◌, ⊤, Option, Some, None, Result, OnOk, OnErr, length, take, drop, slice_index}

-- What is pending: the image at the last sync, and what was done since: the ranges that were written, each by its offset and length,
-- and the sizes to which the file was cut.
pub record Pending : Type 0 where
  pub synced : List ℕ
  pub written : List (ℕ × ℕ)
  pub cuts : List ℕ

-- a place in none of the ranges
abbrev pub IsUnwritten : List (ℕ × ℕ) → ℕ → Type 0
IsUnwritten [] k = ⊤
IsUnwritten (range ∷ ranges) k = ((k < range.0) ⊎ (range.0 + range.1 ≤ k)) × IsUnwritten ranges k

-- a place past none of the cuts
abbrev pub IsUncut : List ℕ → ℕ → Type 0
IsUncut [] k = ⊤
IsUncut (size ∷ sizes) k = (k < size) × IsUncut sizes k

-- a place whose byte stays: within the image at the sync, in no written range and not past a cut
pub record ByteStays (pending : Pending) (k : ℕ) : Type 0 where
  pub inside : k < length pending.synced
  pub unwritten : IsUnwritten pending.written k
  pub uncut : IsUncut pending.cuts k

-- the least size since the sync: that at the sync, or after a cut, for no write makes a file smaller
abbrev pub least_among : ℕ → List ℕ → ℕ
least_among size [] = size
least_among size (cut ∷ cuts) = min cut (least_among size cuts)

abbrev pub least_size : Pending → ℕ
least_size pending = least_among (length pending.synced) pending.cuts

-- the greatest size since the sync: that at the sync, or the end of a written range
abbrev pub greatest_among : ℕ → List (ℕ × ℕ) → ℕ
greatest_among size [] = size
greatest_among size (range ∷ ranges) = max (range.0 + range.1) (greatest_among size ranges)

abbrev pub greatest_size : Pending → ℕ
greatest_size pending = greatest_among (length pending.synced) pending.written

-- What a crash may leave: an image whose size lies between the least and the greatest, with the bytes that stay. The others may be
-- any.
pub record IsCrashImage (pending : Pending) (image : List ℕ) : Type 0 where
  pub no_shorter : least_size pending ≤ length image
  pub no_longer : length image ≤ greatest_size pending
  pub kept : (k : ℕ) → ByteStays pending k → k < length image → slice_index image k ≡ slice_index pending.synced k

-- after a sync with this image
abbrev pub synced_at : List ℕ → Pending
synced_at image = record { synced = image; written = []; cuts = [] }

-- after n bytes were written at this offset
abbrev pub wrote : ℕ → ℕ → Pending → Pending
wrote at n pending = record pending { written = (at, n) ∷ pending.written }

-- after a cut to this size
abbrev pub cut_to : ℕ → Pending → Pending
cut_to size pending = record pending { cuts = size ∷ pending.cuts }

-- after a call that writes and cuts nothing
abbrev pub same_pending : Pending → Pending
same_pending pending = pending

-- bytes written and calls made
pub record Work : Type 0 where
  pub bytes : ℕ
  pub calls : ℕ

-- after one more call that writes so many bytes, where the work is told
abbrev pub worked : ℕ → Option Work → Option Work
worked n None = None
worked n (Some work) = Some (record { bytes = work.bytes + n; calls = work.calls + 1 })

-- What a disk tells: what a read gives; what is pending; the moment, a number that doesn't fall; what a crash at some moment from
-- that one on may have left, during a call or between two; its work; whether it follows the model. The first four are told where it
-- follows it.
pub record Telling : Type 1 where
  pub seen : List ℕ
  pub pending : Pending
  pub moment : ℕ
  pub left_since : ℕ → List ℕ → Type 0
  pub work : Option Work
  pub follows : Bool

-- what a crash now may leave
abbrev pub MayLeave : Telling → List ℕ → Type 0
MayLeave disk image = IsCrashImage disk.pending image

-- new is old with these bytes at this offset
abbrev pub Written : List ℕ → ℕ → List ℕ → List ℕ → Type 0
Written old at bytes new = new ≡ take at old ++ bytes ++ drop (at + length bytes) old

-- From an image to one that it may be after a write of n bytes that is cut short: any bytes in the range and past the old end, the
-- same elsewhere, and any size up to the end of the range.
pub record Torn (at n : ℕ) (old new : List ℕ) : Type 0 where
  pub before : take (min at (length old)) new ≡ take at old
  pub after : take (length old - (at + n)) (drop (at + n) new) ≡ drop (at + n) old
  pub no_shorter : length old ≤ length new
  pub no_longer : length new ≤ max (length old) (at + n)

-- after a cut: some size between, and any bytes past it
pub record Cut (size : ℕ) (old new : List ℕ) : Type 0 where
  pub front : take size new ≡ take (min size (length new)) old
  pub no_shorter : min size (length old) ≤ length new
  pub no_longer : length new ≤ length old

-- each new image is an old one after a step
abbrev pub Follows : (List ℕ → List ℕ → Type 0) → (List ℕ → Type 0) → (List ℕ → Type 0) → Type 0
Follows step old new = (c : List ℕ) → new c → (d : List ℕ) × old d × step d c

-- a crash leaves this and nothing else
abbrev pub Only : List ℕ → (List ℕ → Type 0) → Type 0
Only file images = (c : List ℕ) → images c → c ≡ file

-- the new images are just the old ones after a step
pub record AreAfter (step : List ℕ → List ℕ → Type 0) (old new : List ℕ → Type 0) : Type 0 where
  pub from : Follows step old new
  pub each : (d c : List ℕ) → old d → step d c → new c

-- what a crash may leave after a write, after a cut and after a sync, step by step
abbrev pub WritesByStep : Type 0
WritesByStep = (pending : Pending) (at n : ℕ) → AreAfter (Torn at n) (IsCrashImage pending) (IsCrashImage (wrote at n pending))

abbrev pub CutsByStep : Type 0
CutsByStep = (pending : Pending) (size : ℕ) → AreAfter (Cut size) (IsCrashImage pending) (IsCrashImage (cut_to size pending))

abbrev pub SyncsLeaveOne : Type 0
SyncsLeaveOne = (image : List ℕ) → IsCrashImage (synced_at image) image × Only image (IsCrashImage (synced_at image))

-- What a call does that changes so what is pending: at Failed it did that or nothing. Whether the disk follows the model stays.
pub record ChangesPending {T E : Type 0} (change : Pending → Pending) (old new : Telling) (result : Result T E) : Type 0 where
  pub follows : new.follows ≡ old.follows
  pub ok : OnOk result (IsTrue old.follows → new.pending ≡ change old.pending)
  pub err : OnErr result (IsTrue old.follows → (new.pending ≡ old.pending) ⊎ (new.pending ≡ change old.pending))
  pub later : IsTrue old.follows → old.moment ≤ new.moment
  -- a crash since t may have left what it may have left before, or what it may leave now
  pub nothing_else : IsTrue old.follows → (t : ℕ) (c : List ℕ) → t ≤ old.moment → new.left_since t c → old.left_since t c ⊎ MayLeave new c
  pub keeps : IsTrue old.follows → (t : ℕ) (c : List ℕ) → t ≤ old.moment → old.left_since t c → new.left_since t c

-- the work of a call that writes so many bytes; one that fails may count it or not
pub record CountsWork {T E : Type 0} (n : ℕ) (old new : Option Work) (result : Result T E) : Type 0 where
  pub ok : OnOk result (new ≡ worked n old)
  pub err : OnErr result ((new ≡ old) ⊎ (new ≡ worked n old))

-- A crash at any moment since old leaves an image that has P.
pub record LeavesOnly (old new : Telling) (P : List ℕ → Type 0) : Type 0 where
  pub later : old.moment ≤ new.moment
  pub each : (c : List ℕ) → new.left_since old.moment c → P c
  -- for a run that began earlier
  pub before : (t : ℕ) (c : List ℕ) → t ≤ old.moment → new.left_since t c → old.left_since t c ⊎ P c
  -- and one that comes now
  pub now : (c : List ℕ) → MayLeave new c → P c

-- nothing is pending on a disk that follows the model
pub record IsQuiet (disk : Telling) : Type 0 where
  pub follows : IsTrue disk.follows
  pub only : Only disk.seen (MayLeave disk)

-- ---- what a read gives before and after a call, where the disk follows its model

-- the same
abbrev pub SeesSame : Telling → Telling → Type 0
SeesSame old new = IsTrue old.follows → new.seen ≡ old.seen

-- so many bytes from a place on
abbrev pub Gives : ℕ → ℕ → Telling → List ℕ → Type 0
Gives at n old bytes = IsTrue old.follows → bytes ≡ take n (drop at old.seen)

-- these bytes were written at the place, or the write was cut short there
abbrev pub SeesWritten : ℕ → List ℕ → Telling → Telling → Type 0
SeesWritten at bytes old new = IsTrue old.follows → Written old.seen at bytes new.seen

abbrev pub SeesTorn : ℕ → List ℕ → Telling → Telling → Type 0
SeesTorn at bytes old new = IsTrue old.follows → Torn at (length bytes) old.seen new.seen

-- what stood after the size was taken away, or the cut was left midway
abbrev pub SeesTaken : ℕ → Telling → Telling → Type 0
SeesTaken size old new = IsTrue old.follows → new.seen ≡ take size old.seen

abbrev pub SeesCut : ℕ → Telling → Telling → Type 0
SeesCut size old new = IsTrue old.follows → Cut size old.seen new.seen

-- the change of a sync: what a read gives is all that a crash leaves
abbrev pub synced_as : Telling → Pending → Pending
synced_as disk pending = synced_at disk.seen

-- the size after a write at a place
abbrev pub size_with : ℕ → ℕ → List ℕ → ℕ
size_with size at bytes = max size (at + length bytes)
