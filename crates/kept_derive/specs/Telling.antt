-- What is kept of what a walk tells, once something is found of its root.
use Rattle.std.specs.Prelude.{◌≡◌, ℕ, List, [], ◌∷◌, Some, IsSome}
use Rattle.object_values.specs.declared.facts.Fact.{Fact}
use Rattle.odin_outside.specs.Disk.{Telling}
use Rattle.meaning_graph.specs.Graphs.{Graph}
use Rattle.meaning_graph.specs.Grammar.{GraphText}
use Rattle.odin_journal.specs.Rest.{IsReady}
use Rattle.odin_journal.specs.declared.fault.JournalFault.{JournalFault}
use Rattle.odin_journal.specs.declared.fault.JournalFault.TheVariants as store
use Rattle.odin_store.specs.declared.store.Store.{Store}
use Rattle.odin_store.specs.Held.{Change, notes}
use Rattle.odin_store.specs.OnDisk.{IsSame}
use Rattle.odin_store.specs.Going.{Performs}
use Rattle.odin_store.specs.Edited.{HasFailed}
use Rattle.derive_walk.specs.declared.found.Found.{Found}
use Rattle.derive_walk.specs.Walks.{Walked, IsFormed, IsPlacedIn, IsRight}
use Rattle.derive_walk.specs.Worlds.{World}
use Rattle.kept_derive.specs.declared.fault.KeptFault.{KeptFault}
use Rattle.kept_derive.specs.declared.fault.KeptFault.TheVariants.{Spawn, Disk, Full, Memory}
use Rattle.kept_derive.specs.Knowing.{known_in, AreTrueBeside, KnowsStore, IsRecorded}
use Rattle.kept_derive.specs.Runs.{MayNoteFor, store_world}

-- what a walk went by whose calls are all kept
abbrev pub world_now : Graph → Store → World
world_now g store = store_world g store []

-- the change of what is noted, where there is anything
abbrev pub notes_of : List Fact → List Change
notes_of [] = []
notes_of (fact ∷ facts) = notes (fact ∷ facts) ∷ []

-- The store can be changed and is one for the graph; the walk is formed by what it keeps, and something is found of its root.
pub record MayTell (g : Graph) (store : Store) (size : ℕ) (walked : Walked) : Type 0 where
  pub ready : IsReady store.journal size
  pub spelled : GraphText store.graph g
  pub formed : IsFormed (world_now g store) walked
  pub found : IsSome walked.result

-- It is true beside the kept calls, what is kept of nodes is known, and a root with a view and steps has a record that is checked.
pub record IsRightlyTold (g : Graph) (walked : Walked) (store : Store) (noted : List Fact) (found : Found) : Type 0 where
  pub truth : AreTrueBeside g (known_in store) noted
  pub knows : KnowsStore g store
  pub recorded : IsRecorded found walked.root store

-- This is what is found, a root with a view and steps stands in the table, and what was to be noted was, and nothing else changed on the disk. Where the walk was right, so is what is kept.
pub record HasTold {D : Type 0} (told : D → Telling) (g : Graph) (walked : Walked) (old next : Store) (disk after : D) (found : Found) : Type 0 where
  pub is : walked.result ≡ Some found
  pub placed : IsPlacedIn walked.root walked.done walked.result
  pub noted : List Fact
  pub may : MayNoteFor found noted
  pub goes : Performs told (notes_of noted) old next disk after
  pub epoch : next.epoch ≡ old.epoch
  pub right : IsRight (world_now g old) walked → IsRightlyTold g walked next noted found

-- What was to be noted was not, for the fault.
pub record FailsToNote {D : Type 0} (told : D → Telling) (g : Graph) (walked : Walked) (fault : JournalFault) (old next : Store) (disk after : D) : Type 0 where
  pub facts : List Fact
  pub failed : HasFailed told (notes facts) old next disk after fault
  pub right : IsRight (world_now g old) walked → AreTrueBeside g (known_in old) facts

-- By the fault: no tool is started any more, and where memory was wanting all is as it was.
abbrev pub FailsToTell : {D : Type 0} → (D → Telling) → Graph → Walked → Store → Store → D → D → KeptFault → Type 0
FailsToTell told g walked old next disk after Spawn = ⊥
FailsToTell told g walked old next disk after Disk = FailsToNote told g walked store.Disk old next disk after
FailsToTell told g walked old next disk after (Full at some) = FailsToNote told g walked (store.Full at some) old next disk after
FailsToTell told g walked old next disk after Memory = IsSame old next disk after
