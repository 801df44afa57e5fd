-- Calls of a derivation that are run over what a store keeps, several at once, each kept as its tool ends, and what is noted after them.
use Rattle.std.specs.Prelude.{◌≡◌, ⊤, ℕ, List, [], ◌∷◌, ◌++◌, map}
use Rattle.object_values.specs.declared.facts.Fact.{Fact}
use Rattle.object_values.specs.declared.nodes.Node.{Node}
use Rattle.object_values.specs.declared.calls.Call.{Call}
use Rattle.object_values.specs.declared.calls.Outcome.{Outcome}
use Rattle.odin_outside.specs.Disk.{Telling}
use Rattle.odin_outside.specs.Spawned.{Spawned}
use Rattle.meaning_graph.specs.Graphs.{Graph}
use Rattle.meaning_records.specs.Tables.{Calls}
use Rattle.odin_store.specs.declared.store.Store.{Store}
use Rattle.odin_store.specs.Held.{Change, keeps, notes}
use Rattle.odin_store.specs.Going.{Performs}
use Rattle.derive_walk.specs.declared.found.Found.{Found}
use Rattle.derive_walk.specs.declared.found.Found.TheVariants.{Answer, Circular, Deep}
use Rattle.derive_walk.specs.Founds.{IsFound, NodesFit}
use Rattle.derive_walk.specs.Outcomes.{after}
use Rattle.derive_walk.specs.Worlds.{World}
use Rattle.derive_core.specs.Kept.{kept_world}
use Rattle.plain_derive.specs.Flights.{Course, on_course, off_course, for_chain, AreRun}
use Rattle.kept_derive.specs.Knowing.{known_in, AreTrueBeside, KnowsStore, IsRecorded}

-- a store, its disk, and what is told of the tools, at one moment
pub record At (Disk : Type 0) : Type 0 where
  pub store : Store
  pub disk : Disk
  pub tools : Spawned

abbrev pub at : {Disk : Type 0} → Store → Disk → Spawned → At Disk
at store disk tools = record { store = store; disk = disk; tools = tools }

-- what a derivation goes by, after these outcomes were given
abbrev pub store_world : Graph → Store → Calls → World
store_world g store given = kept_world store.kept store.epoch g store.sources.texts given

abbrev pub keeps_of : Calls → List Change
keeps_of given = map (λ (x : Call × Outcome). keeps x.0 x.1) given

-- the changes of calls that are kept, and of what is noted after them in one batch, where there is anything
abbrev pub changes_for : Calls → List Fact → List Change
changes_for given [] = keeps_of given
changes_for given (fact ∷ facts) = keeps_of given ++ notes (fact ∷ facts) ∷ []

-- The node's tools ran so, at most so many at once, and none runs any more; each call was kept as its tool ended, after them this was noted, and nothing
-- else happened.
pub record HasRun {Disk : Type 0} (told : Disk → Telling) (g : Graph) (n : Node) (limit : ℕ) (course : Course) (old : At Disk) (given : Calls) (noted : List Fact)
    (new : At Disk) : Type 0 where
  pub run : AreRun g old.store.sources.texts (known_in old.store) n limit course given old.tools new.tools
  pub goes : Performs told (changes_for given noted) old.store new.store old.disk new.disk
  pub epoch : new.store.epoch ≡ old.store.epoch

-- a view is found on course; for a chain what runs is drained
abbrev pub course_of : Found → Course
course_of (Answer view) = on_course
course_of (Circular chain) = off_course for_chain
course_of (Deep chain) = off_course for_chain

-- nothing is noted for a chain
abbrev pub MayNoteFor : Found → List Fact → Type 0
MayNoteFor (Answer view) noted = ⊤
MayNoteFor other noted = noted ≡ []

-- It is what is found of the node by what was kept and by the calls that were run. What is noted is true beside the kept calls, what is kept of nodes
-- is known then, and a node with a view and steps has a record that is checked.
pub record IsRightlyFound {Disk : Type 0} (g : Graph) (n : Node) (limit : ℕ) (old new : At Disk) (given : Calls) (noted : List Fact) (found : Found) : Type 0 where
  pub run : AreRun g old.store.sources.texts (known_in old.store) n limit (course_of found) given old.tools new.tools
  pub is : IsFound g old.store.sources.texts (after (known_in old.store) given) n found
  pub truth : AreTrueBeside g (known_in new.store) noted
  pub knows : KnowsStore g new.store
  pub recorded : IsRecorded found n new.store

-- Calls were kept, one after another, and after them this was noted, and nothing else changed. The nodes that are found fit the graph. Where what was
-- kept of nodes was known, it is rightly found.
pub record HasFound {Disk : Type 0} (told : Disk → Telling) (g : Graph) (n : Node) (limit : ℕ) (old new : At Disk) (found : Found) : Type 0 where
  pub given : Calls
  pub noted : List Fact
  pub goes : Performs told (changes_for given noted) old.store new.store old.disk new.disk
  pub epoch : new.store.epoch ≡ old.store.epoch
  pub may : MayNoteFor found noted
  pub fit : NodesFit g found
  pub right : KnowsStore g old.store → IsRightlyFound g n limit old new given noted found
