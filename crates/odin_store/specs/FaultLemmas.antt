-- Which faults leave a store as it was, and which a change may have.
use Rattle.std.proofs.Common.{◌≢◌, Result, Ok, Err, IfErr, refl}
use Rattle.odin_journal.specs.Faults.{IsRefused, FileIsOurs}
use Rattle.odin_journal.specs.declared.fault.JournalFault.{JournalFault}
use Rattle.odin_journal.specs.declared.fault.JournalFault.TheVariants as fault
use Rattle.odin_outside.specs.Disk.{Telling}
use Rattle.odin_store.specs.declared.store.Store.{Store}
use Rattle.odin_store.specs.Held.{Change}
use Rattle.odin_store.specs.Edited.{HasFailed}

-- every fault but one of the disk is a refusal
pub refused_else : (T : Type 0) (e : JournalFault) → e ≢ fault.Disk → IsRefused {T = T} (Err e)
refused_else T fault.Disk other = absurd (other refl)
refused_else T (fault.NotOurs at) other = tt
refused_else T (fault.Full end count) other = tt
refused_else T fault.Memory other = tt

-- what is said of a fault, where all is as it was after every fault but one of the disk
pub fault_told : {T : Type 0} (result : Result T JournalFault) (P Q : JournalFault → Type 0) (Same : Type 0) → IfErr result P → (IsRefused result → Same)
    → ((e : JournalFault) → P e → (e ≢ fault.Disk → Same) → Q e) → IfErr result Q
fault_told (Ok value) P Q Same told same says = tt
fault_told {T = T} (Err e) P Q Same told same says = says e told (λ other. same (refused_else T e other))

-- a change fails over a file that is a store's
pub failed_ours : {Disk : Type 0} (told : Disk → Telling) (change : Change) (store next : Store) (disk after : Disk) (e : JournalFault) → HasFailed told change store next disk after e → FileIsOurs e
failed_ours told change store next disk after fault.Disk failed = tt
failed_ours told change store next disk after (fault.NotOurs at) failed = failed
failed_ours told change store next disk after (fault.Full end count) failed = tt
failed_ours told change store next disk after fault.Memory failed = tt
