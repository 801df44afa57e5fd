-- The fault of a derivation, by that of the store, and what it leaves of the store and of its disk's count of faults.
use Rattle.std.specs.Prelude.{◌≡◌, ◌≤◌, ℕ, IsTrue, Result, OnOk, IfErr}
use Rattle.odin_outside.specs.Causes.{Rose}
use Rattle.odin_journal.specs.declared.fault.JournalFault.{JournalFault}
use Rattle.odin_journal.specs.declared.fault.JournalFault.TheVariants as store
use Rattle.odin_journal.specs.Rest.{IsReady}
use Rattle.odin_store.specs.declared.store.Store.{Store}
use Rattle.kept_derive.specs.declared.fault.KeptFault.{KeptFault}
use Rattle.kept_derive.specs.declared.fault.KeptFault.TheVariants.{Disk, Full, Memory}

-- That a file is not a store's no change finds: this row is for no fault that comes (`FileIsOurs`).
abbrev pub of_store : JournalFault → KeptFault
of_store store.Disk = Disk
of_store (store.NotOurs at) = Memory
of_store (store.Full at some) = Full at some
of_store store.Memory = Memory

-- what a fault leaves of a store: it is spent where the disk failed, and else can be changed on
abbrev pub StoreAfterKeptFault : Store → ℕ → KeptFault → Type 0
StoreAfterKeptFault store size Disk = IsTrue store.journal.spent
StoreAfterKeptFault store size other = IsReady store.journal size

-- what any answer leaves of it
pub record StoreAfterDerive {T : Type 0} (store : Store) (size : ℕ) (result : Result T KeptFault) : Type 0 where
  pub ready : OnOk result (IsReady store.journal size)
  pub left : IfErr result (StoreAfterKeptFault store size)

-- the disk's count of faults rose where the disk failed, and else is as it was
abbrev pub CountAfterKeptFault : ℕ → ℕ → KeptFault → Type 0
CountAfterKeptFault before now Disk = Rose before now
CountAfterKeptFault before now other = now ≡ before

-- and what any answer says of it
pub record KeptFaultIsCounted {T : Type 0} (before now : ℕ) (result : Result T KeptFault) : Type 0 where
  pub later : before ≤ now
  pub ok : OnOk result (now ≡ before)
  pub err : IfErr result (CountAfterKeptFault before now)
