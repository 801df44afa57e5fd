-- What is known of the records of nodes that a store keeps.
use Rattle.std.specs.Prelude.{◌≢◌, ⊤, [], List}
use Rattle.std.specs.List.{All}
use Rattle.object_values.specs.declared.facts.Fact.{Fact}
use Rattle.object_values.specs.declared.nodes.Node.{Node}
use Rattle.meaning_graph.specs.Graphs.{Graph}
use Rattle.meaning_derive.specs.Derive.{Outcomes}
use Rattle.meaning_records.specs.Tables.{kept_outcome}
use Rattle.meaning_true.specs.Facts.{RecordIsTrue}
use Rattle.meaning_true.specs.Knowing.{KeptRecords, Knows, IsChecked}
use Rattle.odin_store.specs.declared.store.Store.{Store}
use Rattle.odin_store.specs.Held.{Held}
use Rattle.derive_walk.specs.Keeping.{places_in, records_in}
use Rattle.derive_walk.specs.Places.{KeptPlaces}
use Rattle.derive_walk.specs.declared.found.Found.{Found}
use Rattle.derive_walk.specs.declared.found.Found.TheVariants.{Answer}
use Rattle.derive_core.specs.Kept.{keeping_of}

-- the outcome of each kept call
abbrev pub known_in : Store → Outcomes
known_in store = kept_outcome store.kept.tables.calls

-- what its records say at its epoch
abbrev pub store_records : Store → KeptRecords
store_records store = records_in (keeping_of store.kept store.epoch)

-- and what the one at each place says
abbrev pub store_places : Store → KeptPlaces
store_places store = places_in (keeping_of store.kept store.epoch)

-- each of these is true beside the outcomes
abbrev pub AreTrueBeside : Graph → Outcomes → List Fact → Type 0
AreTrueBeside g outcomes = All (RecordIsTrue g outcomes)

-- What is held of nodes is true beside the calls that are.
abbrev pub RecordsAreTrue : Graph → Held → Type 0
RecordsAreTrue g held = AreTrueBeside g (kept_outcome held.calls) held.records

-- What it keeps of nodes is true, and what was checked at its epoch holds.
abbrev pub KnowsStore : Graph → Store → Type 0
KnowsStore g store = Knows g store.sources.texts (known_in store) (store_records store)

-- what is known of the one is known of the other, whatever the graph
abbrev pub StaysKnown : Store → Store → Type 0
StaysKnown store next = (g : Graph) → KnowsStore g store → KnowsStore g next

-- the node that has a view has a record that is checked, unless it is a source
abbrev pub IsRecorded : Found → Node → Store → Type 0
IsRecorded (Answer view) n store = n.steps ≢ [] → IsChecked (store_records store) n
IsRecorded other n store = ⊤
