-- Commands fail over a file that is a store's.
use Rattle.std.proofs.Common.{ℕ, Result, Ok, Err, IfErr, inl, inr, sym, subst}
use Rattle.odin_outside.specs.Disk.{Telling}
use Rattle.odin_journal.specs.Faults.{FileIsOurs}
use Rattle.odin_journal.specs.declared.fault.JournalFault.{JournalFault}
use Rattle.odin_journal.specs.declared.fault.JournalFault.TheVariants as fault
use Rattle.meaning_graph.specs.Graphs.{Text, Graph}
use Rattle.odin_store.specs.declared.store.Store.{Store}
use Rattle.odin_store.specs.Held.{Change, puts}
use Rattle.odin_store.specs.Edited.{HasFailed}
use Rattle.odin_store.specs.FaultLemmas.{failed_ours}
use Rattle.kept_derive.specs.Runs.{At}
use Rattle.load_session.specs.Loads.{IsLoadFault}
use Rattle.odin_answers.specs.Changes.{HasFailedToPut}
use Rattle.odin_answers.specs.Replied.{HasStopped}

pub put_ours : {T D : Type 0} (told : D → Telling) (IsIt : Text → Type 0) (name : Text) (store next : Store) (disk after : D) (r : Result T JournalFault)
    → IfErr r (HasFailedToPut told IsIt name store next disk after) → IfErr r FileIsOurs
put_ours told IsIt name store next disk after (Ok reply) failed = tt
put_ours told IsIt name store next disk after (Err e) (inl wanted) = subst FileIsOurs (sym wanted.is) tt
put_ours told IsIt name store next disk after (Err e) (inr fails) = failed_ours told (puts name fails.text) store next disk after e fails.failed

pub change_ours : {T D : Type 0} (told : D → Telling) (change : Change) (store next : Store) (disk after : D) (r : Result T JournalFault)
    → IfErr r (HasFailed told change store next disk after) → IfErr r FileIsOurs
change_ours told change store next disk after (Ok reply) failed = tt
change_ours told change store next disk after (Err e) failed = failed_ours told change store next disk after e failed

pub ask_ours : {D : Type 0} (told : D → Telling) (g : Graph) (limit : ℕ) (text : Text) (old new : At D) (e : JournalFault) → HasStopped told g limit text old new e → FileIsOurs e
ask_ours told g limit text old new fault.Disk stopped = tt
ask_ours told g limit text old new (fault.NotOurs at) stopped = stopped
ask_ours told g limit text old new (fault.Full at size) stopped = tt
ask_ours told g limit text old new fault.Memory stopped = tt

pub load_ours : (units : ℕ) (e : JournalFault) → IsLoadFault units e → FileIsOurs e
load_ours units fault.Disk fails = tt
load_ours units (fault.NotOurs at) fails = fails
load_ours units (fault.Full at size) fails = tt
load_ours units fault.Memory fails = tt
