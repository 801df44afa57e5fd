-- What an ask of an engine does.
use Rattle.std.specs.Prelude.{◌≡◌, ◌⊎◌, ◌≤◌, ⊤, ℕ, IsTrue, Result, Ok, Err, OnOk, IfErr}
use Rattle.object_values.specs.declared.nodes.Node.{Node}
use Rattle.object_values.specs.declared.views.View.{View}
use Rattle.odin_outside.specs.Causes.{Rose}
use Rattle.odin_outside.specs.Disk.{Telling}
use Rattle.meaning_graph.specs.Graphs.{Text, Graph}
use Rattle.odin_journal.specs.Rest.{IsReady}
use Rattle.odin_store.specs.declared.store.Store.{Store}
use Rattle.derive_walk.specs.declared.found.Found.{Found}
use Rattle.derive_walk.specs.declared.found.Found.TheVariants as found
use Rattle.kept_derive.specs.declared.fault.KeptFault.{KeptFault}
use Rattle.kept_derive.specs.declared.fault.KeptFault.TheVariants as stop
use Rattle.kept_derive.specs.Runs.{At, HasFound}
use Rattle.kept_derive.specs.Stops.{IsStopped}
use Rattle.odin_engine.specs.declared.fault.AskFault.{AskFault}
use Rattle.odin_engine.specs.declared.fault.AskFault.TheVariants as fault
use Rattle.odin_engine.specs.Asked.{IsNodeOf, IsRefusedFor}

-- The text asks for a node, of which this is found.
pub record IsFoundFor {Disk : Type 0} (told : Disk → Telling) (g : Graph) (limit : ℕ) (text : Text) (old new : At Disk) (found : Found) : Type 0 where
  pub node : Node
  pub is : IsNodeOf g text node
  pub has : HasFound told g node limit old new found

-- The text asks for a node, whose derivation ended in the fault.
pub record IsStoppedFor {Disk : Type 0} (told : Disk → Telling) (g : Graph) (limit : ℕ) (text : Text) (old new : At Disk) (fault : KeptFault) : Type 0 where
  pub node : Node
  pub is : IsNodeOf g text node
  pub stopped : IsStopped told g node limit old new fault

abbrev pub IsAnswered : {Disk : Type 0} → (Disk → Telling) → Graph → ℕ → Text → At Disk → At Disk → View → Type 0
IsAnswered told g limit text old new view = IsFoundFor told g limit text old new (found.Answer view)

-- Why there is no view: a chain, a fault of the derivation, or the refusal of the text, for which nothing is done. Nor need anything be
-- done for want of memory.
abbrev pub IsAskFault : {Disk : Type 0} → (Disk → Telling) → Graph → ℕ → Text → At Disk → At Disk → AskFault → Type 0
IsAskFault told g limit text old new (fault.Circular chain) = IsFoundFor told g limit text old new (found.Circular chain)
IsAskFault told g limit text old new (fault.Deep chain) = IsFoundFor told g limit text old new (found.Deep chain)
IsAskFault told g limit text old new fault.Spawn = IsStoppedFor told g limit text old new stop.Spawn
IsAskFault told g limit text old new fault.Disk = IsStoppedFor told g limit text old new stop.Disk
IsAskFault told g limit text old new (fault.Full end count) = IsStoppedFor told g limit text old new (stop.Full end count)
IsAskFault told g limit text old new fault.Memory = (new ≡ old) ⊎ IsStoppedFor told g limit text old new stop.Memory
IsAskFault told g limit text old new other = IsRefusedFor g text other × (new ≡ old)

-- what an engine answers, by what its derivation came to
abbrev pub answer_of : Result Found KeptFault → Result View AskFault
answer_of (Ok (found.Answer view)) = Ok view
answer_of (Ok (found.Circular chain)) = Err (fault.Circular chain)
answer_of (Ok (found.Deep chain)) = Err (fault.Deep chain)
answer_of (Err stop.Spawn) = Err fault.Spawn
answer_of (Err stop.Disk) = Err fault.Disk
answer_of (Err (stop.Full end count)) = Err (fault.Full end count)
answer_of (Err stop.Memory) = Err fault.Memory

-- the faults that leave what runs
abbrev pub AskLeavesTools : AskFault → Type 0
AskLeavesTools fault.Disk = ⊤
AskLeavesTools (fault.Full end count) = ⊤
AskLeavesTools fault.Memory = ⊤
AskLeavesTools other = ⊥

-- what a fault leaves of a store: it is spent where the disk failed, and else can be changed on
abbrev pub StoreAfterAskFault : Store → ℕ → AskFault → Type 0
StoreAfterAskFault store size fault.Disk = IsTrue store.journal.spent
StoreAfterAskFault store size other = IsReady store.journal size

pub record StoreAfterAsk (store : Store) (size : ℕ) (result : Result View AskFault) : Type 0 where
  pub ready : OnOk result (IsReady store.journal size)
  pub left : IfErr result (StoreAfterAskFault store size)

-- the disk's count of faults rose where the disk failed, and else is as it was
abbrev pub CountAfterAskFault : ℕ → ℕ → AskFault → Type 0
CountAfterAskFault before now fault.Disk = Rose before now
CountAfterAskFault before now other = now ≡ before

pub record AskFaultIsCounted (before now : ℕ) (result : Result View AskFault) : Type 0 where
  pub later : before ≤ now
  pub ok : OnOk result (now ≡ before)
  pub err : IfErr result (CountAfterAskFault before now)
