-- How a disk stands to its file.
use Rattle.std.specs.Prelude.{◌≡◌, ℕ, Bool, IsTrue, true, false, Option, Some, Result, Ok, Err, OnErr, IsErr}
use Rattle.std.specs.Option.{ForSome}
use Rattle.odin_outside.specs.Causes.{HasCause, once_more}
use Rattle.odin_outside.specs.Disk.{Telling, synced_at}
use Rattle.odin_real.specs.declared.lock.LockFault.{LockFault}
use Rattle.odin_real.specs.declared.lock.LockFault.TheVariants as fault
use Rattle.odin_real.specs.declared.standing.Standing.{Standing}
use Rattle.odin_real.specs.declared.standing.Standing.TheVariants.{Absent, Open, InUse, Lost}
use Rattle.odin_real.specs.Hold.{Hold}
use Rattle.odin_real.specs.Raw.{HasSize, IsNothing}

-- another has the lock
abbrev pub is_in_use : Standing → Bool
is_in_use InUse = true
is_in_use _ = false

-- each later call fails
abbrev pub is_gone : Standing → Bool
is_gone InUse = true
is_gone Lost = true
is_gone _ = false

-- what is told of the lock is what the standing says
abbrev pub IsUsed : Standing → Option Hold → Type 0
IsUsed standing hold = ForSome hold (λ h. h.others ≡ is_in_use standing)

-- the lock is ours, and the name is there after a crash too
pub record HoldLasts (hold : Hold) : Type 0 where
  pub ours : IsTrue hold.ours
  pub lasting : IsTrue hold.lasting

-- an open file has the disk's size, and is kept
pub record FileIsWhole (file : Telling) (hold : Option Hold) (size : ℕ) : Type 0 where
  pub sized : HasSize file size
  pub kept : ForSome hold HoldLasts

-- where no file is there yet the disk is empty
pub record DiskIsEmpty (file : Telling) (size : ℕ) : Type 0 where
  pub nothing : IsNothing file
  pub none : size ≡ 0

-- how a disk of this size stands to a file of which this is told
pub record StandingFits (standing : Standing) (file : Telling) (hold : Option Hold) (size : ℕ) : Type 0 where
  pub absent : standing ≡ Absent → DiskIsEmpty file size
  pub opened : standing ≡ Open → FileIsWhole file hold size
  pub used : IsUsed standing hold

-- A call that fails is counted once and gives the file up, and no other is counted; after that each call fails.
pub record Fares {T E : Type 0} (old new : Standing) (before now : ℕ) (result : Result T E) : Type 0 where
  pub cause : HasCause before now result
  pub counted : OnErr result (now ≡ once_more before)
  pub given_up : OnErr result (IsTrue (is_gone new))
  pub gone : IsTrue (is_gone old) → IsErr result

-- the file is kept, and was seen under its name with this size right before the last change
pub record WasSeen (size : ℕ) (hold : Hold) : Type 0 where
  pub kept : HoldLasts hold
  pub seen : hold.changed ≡ Some size

-- the file is kept, and was seen under its name with this size, with no change since
pub record StaysSeen (size : ℕ) (hold : Hold) : Type 0 where
  pub kept : HoldLasts hold
  pub seen : hold.seen ≡ Some size

-- An open file of this size is whole, and nothing is pending.
pub record FileIsHeld (file : Telling) (hold : Option Hold) (size : ℕ) : Type 0 where
  pub whole : FileIsWhole file hold size
  pub quiet : IsTrue file.follows → file.pending ≡ synced_at file.seen

-- a try to hold a file says that another has the lock exactly where one has it
abbrev pub refuses : {T : Type 0} → Result T LockFault → Bool
refuses (Ok _) = false
refuses (Err fault.InUse) = true
refuses (Err fault.Failed) = false

abbrev pub IsLockedAs : {T : Type 0} → Result T LockFault → Option Hold → Type 0
IsLockedAs result hold = ForSome hold (λ h. h.others ≡ refuses result)

-- the same of a standing and a size
abbrev pub SizedStandingFits : (Standing × ℕ) → Telling → Option Hold → Type 0
SizedStandingFits at file hold = StandingFits at.0 file hold at.1

-- The file is open, and was just seen as the disk knows it.
pub record FileIsReady (standing : Standing) (hold : Option Hold) (size : ℕ) : Type 0 where
  pub opened : standing ≡ Open
  pub seen : ForSome hold (StaysSeen size)
