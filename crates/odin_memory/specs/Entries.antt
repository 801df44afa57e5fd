-- The calls of a file as they are kept: a write by its offset and the number of its bytes, which stand in one list with those of the
-- other writes.
use Rattle.std.specs.Prelude.{◌≡◌, ◌⊎◌, ℕ, ◌+◌, List, [], ◌∷◌, ◌++◌, ⊤, Vec, take, drop, IsFalse}
use Rattle.std.specs.declared.alloc.Global.{Global}
use Rattle.odin_memory.specs.declared.choice.Choice.{Choice}
use Rattle.odin_memory.specs.declared.disk.Entry.{Entry}
use Rattle.odin_memory.specs.declared.disk.Entry.TheVariants as entry
use Rattle.odin_outside.specs.Disk.{IsCrashImage}
use Rattle.odin_memory.specs.Choices.{TearsAs, past_digit}
use Rattle.odin_memory.specs.Calls.{Call, Wrote, WasCut, Synced, Looked, changed, image_after, image_before, pending_after, UndoesNewest, calls_until, FitsIn, LeftWithin}

-- how many bytes a kept call has in the list
abbrev pub count_of : Entry → ℕ
count_of (entry.Write at n) = n
count_of (entry.Cut size) = 0
count_of entry.Sync = 0
count_of entry.Look = 0

-- the call, of which these are the bytes
abbrev pub call_from_entry : Entry → List ℕ → Call
call_from_entry (entry.Write at n) bytes = Wrote at bytes
call_from_entry (entry.Cut size) bytes = WasCut size
call_from_entry entry.Sync bytes = Synced
call_from_entry entry.Look bytes = Looked

-- the calls after those that were done before, the newest first; the bytes are used up from the front
abbrev pub calls_after : List Entry → List ℕ → List Call → List Call
calls_after [] bytes done = done
calls_after (kept ∷ entries) bytes done = calls_after entries (drop (count_of kept) bytes) (call_from_entry kept (take (count_of kept) bytes) ∷ done)

abbrev pub calls_from_entries : List Entry → List ℕ → List Call
calls_from_entries entries bytes = calls_after entries bytes []

-- the bytes that they leave
abbrev pub bytes_left : List Entry → List ℕ → List ℕ
bytes_left [] bytes = bytes
bytes_left (kept ∷ entries) bytes = bytes_left entries (drop (count_of kept) bytes)

-- how many bytes they have
abbrev pub bytes_of : List Entry → ℕ
bytes_of [] = 0
bytes_of (kept ∷ entries) = count_of kept + bytes_of entries

-- an entry of a call that changes no byte
abbrev pub IsPlain : Entry → Type 0
IsPlain (entry.Write at n) = ⊥
IsPlain (entry.Cut size) = ⊥
IsPlain entry.Sync = ⊤
IsPlain entry.Look = ⊤

-- one of any call but a sync
abbrev pub IsPending : Entry → Type 0
IsPending (entry.Write at n) = ⊤
IsPending (entry.Cut size) = ⊤
IsPending entry.Sync = ⊥
IsPending entry.Look = ⊤

-- these calls but for a sync at their end, which may have done nothing yet
abbrev pub IsUnfinished : List Entry → List Entry → Type 0
IsUnfinished entries before = (before ≡ entries) ⊎ (entries ≡ before ++ entry.Sync ∷ [])

-- no call is there, or a sync is the last
abbrev pub EndsSynced : List Entry → Type 0
EndsSynced entries = (entries ≡ []) ⊎ ((front : List Entry) × entries ≡ front ++ entry.Sync ∷ [])

-- by a choice this call is done whole, or is a write or a cut of which nothing is done
abbrev pub DoesWhole : Choice → Entry → Type 0
DoesWhole choice (entry.Write at n) = TearsAs 0 choice
DoesWhole choice (entry.Cut size) = TearsAs 0 choice
DoesWhole choice entry.Sync = ⊤
DoesWhole choice entry.Look = ⊤

abbrev pub DoesNone : Choice → Entry → Type 0
DoesNone choice (entry.Write at n) = TearsAs 1 choice
DoesNone choice (entry.Cut size) = TearsAs 1 choice
DoesNone choice entry.Sync = ⊥
DoesNone choice entry.Look = ⊥

-- the choice for the calls after it, where it is done whole
abbrev pub choice_past : Entry → Choice → Choice
choice_past (entry.Write at n) choice = past_digit choice
choice_past (entry.Cut size) choice = past_digit choice
choice_past entry.Sync choice = choice
choice_past entry.Look choice = choice

-- the last of these calls is undone by a choice, and each before it is done
abbrev pub UndoesLast : List Entry → Choice → Type 0
UndoesLast [] choice = ⊥
UndoesLast (kept ∷ []) choice = DoesNone choice kept
UndoesLast (kept ∷ next ∷ more) choice = DoesWhole choice kept × UndoesLast (next ∷ more) (choice_past kept choice)

-- A list in memory is what a read gives after these calls, what a crash after them may leave, or what a stop within the last of them may
-- leave.
abbrev pub IsImageOf : List ℕ → List Entry → List ℕ → Vec ℕ Global → Type 0
IsImageOf first entries written image = image.items ≡ image_after first (calls_from_entries entries written)

abbrev pub IsCrashOf : List ℕ → List Entry → List ℕ → Vec ℕ Global → Type 0
IsCrashOf first entries written image = IsCrashImage (pending_after first (calls_from_entries entries written)) image.items

abbrev pub IsStopOf : List ℕ → List Entry → List ℕ → Vec ℕ Global → Type 0
IsStopOf first entries written image = LeftWithin first (calls_from_entries entries written) image.items

-- likewise of the first calls up to a number
abbrev pub SeenAt : ℕ → List ℕ → List Entry → List ℕ → Vec ℕ Global → Type 0
SeenAt moment first entries written image = image.items ≡ image_after first (calls_until moment (calls_from_entries entries written))

abbrev pub StopAt : ℕ → List ℕ → List Entry → List ℕ → Vec ℕ Global → Type 0
StopAt moment first entries written image = LeftWithin first (calls_until moment (calls_from_entries entries written)) image.items

-- by a choice the newest of the calls is undone, with all before it done
pub record Undoes (choice : Choice) (calls : List Call) : Type 0 where
  pub rest : UndoesNewest choice.rest calls
  pub chance : IsFalse choice.chance

-- Where the choice undoes it, or the last of the calls that are pending, a list in memory is what a read gave before it.
abbrev pub LeavesOut : Choice → List ℕ → List Entry → List ℕ → Vec ℕ Global → Type 0
LeavesOut choice first entries written image = Undoes choice (calls_from_entries entries written) → image.items ≡ image_before first (calls_from_entries entries written)

abbrev pub LeavesOutAt : ℕ → Choice → List ℕ → List Entry → List ℕ → Vec ℕ Global → Type 0
LeavesOutAt moment choice first entries written image = Undoes choice (calls_until moment (calls_from_entries entries written)) → image.items ≡ image_before first (calls_until moment (calls_from_entries entries written))

abbrev pub LeavesOutLast : ℕ → Choice → List ℕ → List Entry → List ℕ → Vec ℕ Global → Type 0
LeavesOutLast pending choice first entries written image = UndoesLast (drop pending entries) choice → image.items ≡ image_before first (calls_from_entries entries written)

-- what the whole call makes of an image that it fits into, where it is done whole by the choice
abbrev pub IsDoneBy : Choice → Entry → List ℕ → Vec ℕ Global → Vec ℕ Global → Type 0
IsDoneBy choice kept bytes old new = DoesWhole choice kept → FitsIn (call_from_entry kept bytes) old.items → new.items ≡ changed (call_from_entry kept bytes) old.items
