-- A derivation over what a store keeps that did not come to its end.
use Rattle.std.specs.Prelude.{◌≡◌, ◌≤◌, ⊤, ℕ, ◌++◌, ◌∷◌, [], List, length}
use Rattle.object_values.specs.declared.facts.Fact.{Fact}
use Rattle.object_values.specs.declared.nodes.Node.{Node}
use Rattle.odin_outside.specs.Disk.{Telling}
use Rattle.meaning_graph.specs.Graphs.{Graph}
use Rattle.meaning_derive.specs.Derive.{Outcomes}
use Rattle.meaning_records.specs.Tables.{Calls}
use Rattle.odin_journal.specs.declared.fault.JournalFault.{JournalFault}
use Rattle.odin_journal.specs.declared.fault.JournalFault.TheVariants as store
use Rattle.odin_store.specs.Held.{Change, keeps, notes}
use Rattle.odin_store.specs.Going.{Performs}
use Rattle.odin_store.specs.Edited.{HasFailed}
use Rattle.plain_derive.specs.Flights.{off_course, for_spawn, AreRun, AreFlown}
use Rattle.kept_derive.specs.declared.fault.KeptFault.{KeptFault}
use Rattle.kept_derive.specs.declared.fault.KeptFault.TheVariants.{Spawn, Disk, Full, Memory}
use Rattle.kept_derive.specs.Knowing.{known_in, AreTrueBeside, KnowsStore}
use Rattle.kept_derive.specs.Runs.{At, keeps_of}

-- ---- a tool was not started, or its end was lost

-- Nothing more was started, and what ran was drained. What is kept of nodes is still known.
pub record IsRightlyDrained {Disk : Type 0} (g : Graph) (n : Node) (limit : ℕ) (old new : At Disk) (given : Calls) : Type 0 where
  pub run : AreRun g old.store.sources.texts (known_in old.store) n limit (off_course for_spawn) given old.tools new.tools
  pub knows : KnowsStore g new.store

-- What came of the tools is kept, and nothing else changed. Where what was kept of nodes was known, they were drained so.
pub record DeriveIsDrained {Disk : Type 0} (told : Disk → Telling) (g : Graph) (n : Node) (limit : ℕ) (old new : At Disk) : Type 0 where
  pub given : Calls
  pub goes : Performs told (keeps_of given) old.store new.store old.disk new.disk
  pub epoch : new.store.epoch ≡ old.store.epoch
  pub right : KnowsStore g old.store → IsRightlyDrained g n limit old new given

-- ---- something was not kept

-- it is the keeping of a call, or notes of nodes
abbrev pub IsOfResults : Change → Type 0
IsOfResults (keeps call outcome) = ⊤
IsOfResults (notes facts) = ⊤
IsOfResults other = ⊥

-- what was to be kept at last: the one outcome that came and isn't kept; or, where all are, notes that are true beside the kept calls
abbrev pub IsLastOf : Graph → Outcomes → Calls → Change → Type 0
IsLastOf g known [] last = (facts : List Fact) × (last ≡ notes facts) × AreTrueBeside g known facts
IsLastOf g known (came ∷ rest) last = (rest ≡ []) × (last ≡ keeps came.0 came.1)

-- The node's tools ran, and these outcomes came, of which the last was to be kept, or notes after all of them.
pub record IsRightlyUnkept {Disk : Type 0} (g : Graph) (n : Node) (limit : ℕ) (old mid new : At Disk) (given : Calls) (last : Change) : Type 0 where
  pub rest : Calls
  pub ends : IsLastOf g (known_in mid.store) rest last
  pub flown : AreFlown g old.store.sources.texts (known_in old.store) n limit (given ++ rest) old.tools new.tools

-- Calls were kept, one after another, and what was to be kept at last was not, for the fault. What runs is left.
pub record IsUnkept {Disk : Type 0} (told : Disk → Telling) (g : Graph) (n : Node) (limit : ℕ) (fault : JournalFault) (old new : At Disk) : Type 0 where
  pub given : Calls
  pub last : Change
  pub is : IsOfResults last
  pub mid : At Disk
  pub goes : Performs told (keeps_of given) old.store mid.store old.disk mid.disk
  pub epoch : mid.store.epoch ≡ old.store.epoch
  pub failed : HasFailed told last mid.store new.store mid.disk new.disk fault
  pub right : KnowsStore g old.store → IsRightlyUnkept g n limit old mid new given last

-- ---- memory was wanting

-- Tools ran, and what came is kept, but for the last at most. What runs is left.
pub record IsRightlyWanting {Disk : Type 0} (g : Graph) (n : Node) (limit : ℕ) (old new : At Disk) (given : Calls) : Type 0 where
  pub rest : Calls
  pub few : length rest ≤ 1
  pub flown : AreFlown g old.store.sources.texts (known_in old.store) n limit (given ++ rest) old.tools new.tools

-- Calls were kept, one after another, and nothing else changed.
pub record DeriveIsOutOfMemory {Disk : Type 0} (told : Disk → Telling) (g : Graph) (n : Node) (limit : ℕ) (old new : At Disk) : Type 0 where
  pub given : Calls
  pub goes : Performs told (keeps_of given) old.store new.store old.disk new.disk
  pub epoch : new.store.epoch ≡ old.store.epoch
  pub right : KnowsStore g old.store → IsRightlyWanting g n limit old new given

-- what a derivation did that ends in a fault
abbrev pub IsStopped : {Disk : Type 0} → (Disk → Telling) → Graph → Node → ℕ → At Disk → At Disk → KeptFault → Type 0
IsStopped told g n limit old new Spawn = DeriveIsDrained told g n limit old new
IsStopped told g n limit old new Disk = IsUnkept told g n limit store.Disk old new
IsStopped told g n limit old new (Full at some) = IsUnkept told g n limit (store.Full at some) old new
IsStopped told g n limit old new Memory = DeriveIsOutOfMemory told g n limit old new
