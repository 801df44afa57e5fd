-- What is kept, as a walk looks it up: outcomes of calls, and records of nodes.
use Rattle.std.specs.Prelude.{◌≡◌, ◌↔◌, ◌⊎◌, ◌≤◌, ℕ, [], Option, Some, None, IsNone, option_map}
use Rattle.object_values.specs.declared.messages.Status.TheVariants.{Abort}
use Rattle.object_values.specs.declared.nodes.Node.{Node}
use Rattle.object_values.specs.declared.records.NodeRecord.{NodeRecord}
use Rattle.object_values.specs.declared.views.Value.{Value}
use Rattle.meaning_texts.specs.Limits.{height_limit}
use Rattle.meaning_graph.specs.Graphs.{Graph}
use Rattle.meaning_derive.specs.Derive.{Outcomes}
use Rattle.meaning_derive.specs.Premises.{IsShort}
use Rattle.meaning_true.specs.Knowing.{KeptRecord, KeptRecords}
use Rattle.meaning_true.specs.Numbered.{Contents, NumberedRecords, kept_by, records_by}
use Rattle.validator.specs.Fitting.{FactFits}
use Rattle.derive_walk.specs.Places.{KeptPlaces}
use Rattle.derive_walk.specs.Trials.{IsNamed}

-- the record at each place
abbrev pub PlacedRecords : Type 0
PlacedRecords = ℕ → Option NodeRecord

-- The outcome of each call that is kept, the content of each number, the record of each node and of each place, and the epoch at which they are looked up.
pub record Keeping : Type 0 where
  pub outcomes : Outcomes
  pub contents : Contents
  pub records : NumberedRecords
  pub placed : PlacedRecords
  pub epoch : ℕ

-- what its records say
abbrev pub records_in : Keeping → KeptRecords
records_in k = records_by k.contents k.epoch k.records

-- what the record at each place says
abbrev pub places_in : Keeping → KeptPlaces
places_in k place = option_map (kept_by k.contents k.epoch) (k.placed place)

-- It is a record of the node, and what it names is there.
pub record IsNodeRecord (k : Keeping) (n : Node) (r : NodeRecord) : Type 0 where
  pub is : records_in k n ≡ Some (kept_by k.contents k.epoch r)
  pub named : IsNamed k.contents r

-- What is found of a node: its record, where it has one. A source isn't looked up.
abbrev pub IsLookedUp : Keeping → Node → Option NodeRecord → Type 0
IsLookedUp k n None = (n.steps ≡ []) ⊎ (records_in k n ≡ None)
IsLookedUp k n (Some r) = IsNodeRecord k n r

-- the outcomes alone, without a record
abbrev pub outcomes_alone : Outcomes → Keeping
outcomes_alone outcomes = record {
  outcomes = outcomes;
  contents = λ number. None;
  records = λ n. None;
  placed = λ place. None;
  epoch = 0;
}

-- ---- records that may be kept, true or not

-- The record is of this node and fits the graph, its value is short, its height is one of a node with steps, and it has a value exactly where it
-- isn't at abort.
pub record IsReadable (g : Graph) (n : Node) (k : KeptRecord) : Type 0 where
  pub is : k.fact.node ≡ n
  pub fits : FactFits g k.fact
  pub short : (v : Value) → k.fact.value ≡ Some v → IsShort v
  pub least : 1 ≤ k.height
  pub most : k.height ≤ height_limit
  pub valued : IsNone k.fact.value ↔ (k.status ≡ Abort)

-- Each of the records is so.
abbrev pub AreReadable : Graph → KeptRecords → Type 0
AreReadable g records = (n : Node) (k : KeptRecord) → records n ≡ Some k → IsReadable g n k
