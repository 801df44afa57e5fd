-- What follows where a derivation over what a store keeps did not come to its end.
use Rattle.std.specs.Prelude.{◌≡◌, ◌≢◌, ℕ, List, [], ◌∷◌, Some}
use Rattle.object_values.specs.declared.facts.Fact.{Fact}
use Rattle.object_values.specs.declared.nodes.Node.{Node}
use Rattle.odin_outside.specs.Disk.{Telling}
use Rattle.odin_outside.specs.Spawned.{Table}
use Rattle.meaning_graph.specs.Graphs.{Graph}
use Rattle.meaning_derive.specs.Given.{table_outcomes}
use Rattle.meaning_derive.specs.Laws.{HasMore}
use Rattle.meaning_records.specs.Tables.{Calls}
use Rattle.odin_store.specs.Held.{Change}
use Rattle.odin_store.specs.Going.{Performs, StopsPerforming}
use Rattle.kept_derive.specs.declared.fault.KeptFault.{KeptFault}
use Rattle.kept_derive.specs.declared.fault.KeptFault.TheVariants.{Disk as DiskFailed}
use Rattle.kept_derive.specs.Knowing.{known_in, KnowsStore}
use Rattle.kept_derive.specs.Runs.{At, keeps_of, changes_for}
use Rattle.kept_derive.specs.Stops.{IsOfResults, IsStopped}

module _ {Disk : Type 0} (told : Disk → Telling) where
  -- Calls were kept, one after another, and after them this was noted, and nothing else changed.
  pub record KeepsResults (old new : At Disk) : Type 0 where
    pub given : Calls
    pub noted : List Fact
    pub goes : Performs told (changes_for given noted) old.store new.store old.disk new.disk
    pub epoch : new.store.epoch ≡ old.store.epoch

  -- A stop that is not the disk's leaves a store that keeps the calls before it.
  abbrev pub StopsKeep : Type 0
  StopsKeep =
      (g : Graph) (n : Node) (limit : ℕ) (old new : At Disk) (fault : KeptFault) → fault ≢ DiskFailed
      → IsStopped told g n limit old new fault → KeepsResults old new

  -- After a fault of the disk such calls are there, and what was to be kept at last may be: none before it is lost.
  pub record StopsInResults (old new : At Disk) : Type 0 where
    pub given : Calls
    pub last : Change
    pub is : IsOfResults last
    pub mid : At Disk
    pub goes : Performs told (keeps_of given) old.store mid.store old.disk mid.disk
    pub stops : StopsPerforming told (last ∷ []) mid.store mid.disk new.disk

  abbrev pub DiskStops : Type 0
  DiskStops = (g : Graph) (n : Node) (limit : ℕ) (old new : At Disk) → IsStopped told g n limit old new DiskFailed → StopsInResults old new

  -- Where what was kept of nodes was known, the tools answer by a table and what is kept is true for it, what is kept after such a stop is.
  abbrev pub StopsAreTrue : Type 0
  StopsAreTrue =
      (table : Table) (g : Graph) (n : Node) (limit : ℕ) (old new : At Disk) (fault : KeptFault) → fault ≢ DiskFailed
      → old.tools.answer ≡ Some table → HasMore (known_in old.store) (table_outcomes table) → KnowsStore g old.store
      → IsStopped told g n limit old new fault → HasMore (known_in new.store) (table_outcomes table)
