-- What is told of a file of the system beside its bytes.
use Rattle.std.specs.Prelude.{◌≡◌, ℕ, Bool, IsTrue, true, false, Option, None, Result, Ok, Err}
use Rattle.std.specs.Option.{ForSome, option_map}
use Rattle.odin_real.specs.declared.lock.LockFault.{LockFault}
use Rattle.odin_real.specs.declared.lock.LockFault.TheVariants.{InUse, Failed}

-- Whether its lock is ours, or was found to be that of others; the size with which it was seen under its own name, where nothing changed it since;
-- that size right before the last change; whether its name is there after a crash too; and whether we tried to make it.
pub record Hold : Type 0 where
  pub ours : Bool
  pub others : Bool
  pub seen : Option ℕ
  pub changed : Option ℕ
  pub lasting : Bool
  pub made : Bool

-- right after it was opened
abbrev pub just_opened : Hold → Hold
just_opened hold = record hold { ours = false; others = false; seen = None; changed = None; lasting = false }

-- right after it was made, or a try to make it
abbrev pub just_made : Hold → Hold
just_made hold = record { ours = false; others = false; seen = None; changed = None; lasting = false; made = true }

-- after a try to lock it: what was seen before the lock was ours may have changed since
abbrev pub after_lock : {T : Type 0} → Result T LockFault → Hold → Hold
after_lock (Ok _) hold = record hold { ours = true; others = false; seen = None }
after_lock (Err InUse) hold = record hold { ours = false; others = true }
after_lock (Err Failed) hold = record hold { ours = false; others = false }

-- after a look at it, which found it under its own name with this size, or not
abbrev pub hold_after_look : {E : Type 0} → Result (Option ℕ) E → Hold → Hold
hold_after_look (Ok size) hold = record hold { seen = size }
hold_after_look (Err _) hold = record hold { seen = None }

-- after it was written or cut, or a try to do that
abbrev pub after_change : Hold → Hold
after_change hold = record hold { seen = None; changed = hold.seen }

-- after a sync
abbrev pub unseen : Hold → Hold
unseen hold = record hold { seen = None }

-- after a sync of its name
abbrev pub after_naming : {T E : Type 0} → Result T E → Hold → Hold
after_naming (Ok _) hold = record hold { lasting = true }
after_naming (Err _) hold = hold

-- the lock is ours, where that is told
abbrev pub LockIsOurs : Option Hold → Type 0
LockIsOurs hold = ForSome hold (λ h. IsTrue h.ours)

-- no file was made meanwhile, where that is told
abbrev pub MakesNone : Option Hold → Option Hold → Type 0
MakesNone old new = option_map (λ h. h.made) new ≡ option_map (λ h. h.made) old
