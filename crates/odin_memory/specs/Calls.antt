-- The calls of a file in memory, and what they make of it.
use Rattle.std.specs.Prelude.{◌≡◌, ◌⊎◌, ℕ, ◌+◌, ◌-◌, ◌^◌, ◌≤◌, ⊤, min, Vec, List, [], ◌∷◌, ◌++◌, length, take, drop}
use Rattle.std.specs.declared.alloc.Global.{Global}
use Rattle.odin_outside.specs.Disk.{Pending, IsCrashImage, Torn, Cut, synced_at, wrote, cut_to}

-- a write of these bytes at this offset, a cut to this size, a sync, or a call that changes nothing
pub data Call : Type 0 where
  Wrote : (at : ℕ) (bytes : List ℕ) → Call
  WasCut : (size : ℕ) → Call
  Synced : Call
  Looked : Call

-- the image with these bytes at this offset
abbrev pub written : List ℕ → ℕ → List ℕ → List ℕ
written image at bytes = take at image ++ bytes ++ drop (at + length bytes) image

-- the image in memory is that with these bytes at this offset, if that lies within it
abbrev pub Holds : Vec ℕ Global → ℕ → List ℕ → Vec ℕ Global → Type 0
Holds old at bytes new = at ≤ length old.items → new.items ≡ written old.items at bytes

-- what a call makes of an image
abbrev pub changed : Call → List ℕ → List ℕ
changed (Wrote at bytes) image = written image at bytes
changed (WasCut size) image = take size image
changed Synced image = image
changed Looked image = image

-- what a read gives after these calls, the newest first, on a file that was this image
abbrev pub image_after : List ℕ → List Call → List ℕ
image_after first [] = first
image_after first (call ∷ before) = changed call (image_after first before)

-- what a read gave before the newest of them
abbrev pub image_before : List ℕ → List Call → List ℕ
image_before first calls = image_after first (drop 1 calls)

-- What is pending after them. A write begins no later than at the end of the file, and a cut leaves no more than there is.
abbrev pub pending_after : List ℕ → List Call → Pending
pending_after first [] = synced_at first
pending_after first (Wrote at bytes ∷ before) = wrote (min at (length (image_after first before))) (length bytes) (pending_after first before)
pending_after first (WasCut size ∷ before) = cut_to (min size (length (image_after first before))) (pending_after first before)
pending_after first (Synced ∷ before) = synced_at (image_after first before)
pending_after first (Looked ∷ before) = pending_after first before

-- what a crash may have left at some moment since there were t calls
abbrev pub LeftSince : List ℕ → ℕ → List Call → List ℕ → Type 0
LeftSince first t [] image = (t ≤ 0) × IsCrashImage (pending_after first []) image
LeftSince first t (call ∷ before) image = ((t ≤ length (call ∷ before)) × IsCrashImage (pending_after first (call ∷ before)) image) ⊎ LeftSince first t before image

-- how many bytes they have written
abbrev pub bytes_written : List Call → ℕ
bytes_written [] = 0
bytes_written (Wrote at bytes ∷ before) = bytes_written before + length bytes
bytes_written (WasCut size ∷ before) = bytes_written before
bytes_written (Synced ∷ before) = bytes_written before
bytes_written (Looked ∷ before) = bytes_written before

-- a write begins within the image, and a cut leaves no more than there is
abbrev pub FitsIn : Call → List ℕ → Type 0
FitsIn (Wrote at bytes) image = at ≤ length image
FitsIn (WasCut size) image = size ≤ length image
FitsIn Synced image = ⊤
FitsIn Looked image = ⊤

-- each call fits into what there was before it
abbrev pub AreWithin : List ℕ → List Call → Type 0
AreWithin first [] = ⊤
AreWithin first (call ∷ before) = FitsIn call (image_after first before) × AreWithin first before

-- how many writes and cuts there were since the last sync
abbrev pub torn_count : List Call → ℕ
torn_count [] = 0
torn_count (Wrote at bytes ∷ before) = torn_count before + 1
torn_count (WasCut size ∷ before) = torn_count before + 1
torn_count (Synced ∷ before) = 0
torn_count (Looked ∷ before) = torn_count before

-- The newest call is a write or a cut, and the number in base 8 has the digit 1 for it, and 0 for each write and cut before it since
-- the last sync.
abbrev pub UndoesNewest : ℕ → List Call → Type 0
UndoesNewest number [] = ⊥
UndoesNewest number (Wrote at bytes ∷ before) = number ≡ 8 ^ torn_count before
UndoesNewest number (WasCut size ∷ before) = number ≡ 8 ^ torn_count before
UndoesNewest number (Synced ∷ before) = ⊥
UndoesNewest number (Looked ∷ before) = ⊥

-- what a call that is cut short may make of an image
abbrev pub TornBy : Call → List ℕ → List ℕ → Type 0
TornBy (Wrote at bytes) old new = Torn at (length bytes) old new
TornBy (WasCut size) old new = Cut size old new
TornBy Synced old new = new ≡ old
TornBy Looked old new = new ≡ old

-- the first calls up to a number
abbrev pub calls_until : ℕ → List Call → List Call
calls_until moment calls = drop (length calls - moment) calls

-- what a stop within the newest call may leave: what a crash before it may leave, or after it
abbrev pub LeftWithin : List ℕ → List Call → List ℕ → Type 0
LeftWithin first [] image = IsCrashImage (pending_after first []) image
LeftWithin first (call ∷ before) image = IsCrashImage (pending_after first before) image ⊎ IsCrashImage (pending_after first (call ∷ before)) image
