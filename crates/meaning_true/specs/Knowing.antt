-- What is known where records are kept, and which nodes may be looked at then.
use Rattle.std.specs.Prelude.{◌≡◌, ◌⊎◌, ◌+◌, ◌≤◌, ℕ, suc, true, List, [], length, Bool, Option, Some, None, slice_get}
use Rattle.object_values.specs.declared.messages.Status.{Status}
use Rattle.object_values.specs.declared.messages.Message.{Message}
use Rattle.object_values.specs.declared.nodes.Node.{Node}
use Rattle.object_values.specs.declared.calls.Call.{Call}
use Rattle.object_values.specs.declared.views.View.{View}
use Rattle.meaning_texts.specs.Lists.{IsIn}
use Rattle.meaning_graph.specs.Graphs.{Graph}
use Rattle.meaning_tasks.specs.Needs.{Needs, nodes_of}
use Rattle.meaning_derive.specs.Derive.{Sources, Outcomes, derived, HasHeight}
use Rattle.meaning_derive.specs.Laws.{HasMore}
use Rattle.meaning_derive.specs.Chains.{AreDifferent, IsNeed}
use Rattle.meaning_derive.specs.Calls.{Runs}
use Rattle.object_values.specs.declared.facts.FactDep.{FactDep}
use Rattle.object_values.specs.declared.facts.Fact.{Fact}
use Rattle.meaning_true.specs.Facts.{RecordIsTrue, IsAsSeen, needs_in}
use Rattle.meaning_true.specs.Checked.{RecordHolds}

-- a record, what it came to when it was last checked, and whether that was at the present epoch
pub record KeptRecord : Type 0 where
  pub fact : Fact
  pub status : Status
  pub messages : List Message
  pub height : ℕ
  pub tight : Option ℕ
  pub checked : Bool

abbrev pub KeptRecords : Type 0
KeptRecords = Node → Option KeptRecord

abbrev pub view_kept : KeptRecord → View
view_kept k = record { value = k.fact.value; status = k.status; messages = k.messages }

-- The node's record is checked.
pub record IsChecked (records : KeptRecords) (n : Node) : Type 0 where
  pub kept : KeptRecord
  pub is : records n ≡ Some kept
  pub checked : kept.checked ≡ true

-- The dep at this place is just one lower.
pub record IsTight (g : Graph) (s : Sources) (outcomes : Outcomes) (k : KeptRecord) (place : ℕ) : Type 0 where
  pub dep : FactDep
  pub one : slice_get k.fact.deps place ≡ Some dep
  pub height : ℕ
  pub has : HasHeight g s outcomes dep.node height
  pub next : suc height ≡ k.height

-- It is at height 1, or tells the place of a dep that is just one lower.
abbrev pub TellsTight : Graph → Sources → Outcomes → KeptRecord → Type 0
TellsTight g s outcomes k = (k.height ≡ 1) ⊎ ((place : ℕ) × (k.tight ≡ Some place) × IsTight g s outcomes k place)

-- Each record is true beside the outcomes; one that is checked holds, and so are those of its deps with steps.
pub record Knows (g : Graph) (s : Sources) (outcomes : Outcomes) (records : KeptRecords) : Type 0 where
  pub each : (n : Node) (k : KeptRecord) → records n ≡ Some k → (k.fact.node ≡ n) × RecordIsTrue g outcomes k.fact
  pub holds : (n : Node) (k : KeptRecord) → records n ≡ Some k → k.checked ≡ true → RecordHolds g s outcomes k.fact (view_kept k) k.height
  pub closed : (n : Node) (k : KeptRecord) → records n ≡ Some k → k.checked ≡ true
      → (d : FactDep) → IsIn d k.fact.deps → (d.node.steps ≡ []) ⊎ IsChecked records d.node
  pub tight : (n : Node) (k : KeptRecord) → records n ≡ Some k → k.checked ≡ true → TellsTight g s outcomes k

-- No record is kept.
abbrev pub no_records : KeptRecords
no_records n = None

-- So nothing has to be true.
abbrev pub NothingIsKnown : Type 0
NothingIsKnown = (g : Graph) (s : Sources) (outcomes : Outcomes) → Knows g s outcomes no_records

-- What is known of records stays as more outcomes come.
abbrev pub KnowsStays : Type 0
KnowsStays =
    (g : Graph) (s : Sources) (outcomes more : Outcomes) (records : KeptRecords) → HasMore outcomes more
    → Knows g s outcomes records → Knows g s more records

-- The root may be looked at, and so may the needs of what is looked at and isn't checked.
pub data MayLook (g : Graph) (s : Sources) (outcomes : Outcomes) (records : KeptRecords) (root : Node) : Node → Type 0 where
  the_root : MayLook g s outcomes records root root
  a_need : (n m : Node) → MayLook g s outcomes records root n → ¬ IsChecked records n → IsNeed g (derived g s outcomes) n m → MayLook g s outcomes records root m

-- By the present results the deps are the node's needs, each as it was seen.
pub record IsPresent (g : Graph) (s : Sources) (outcomes : Outcomes) (fact : Fact) : Type 0 where
  pub needs : Needs g fact.node (derived g s outcomes) (nodes_of (needs_in fact.deps))
  pub seen : IsAsSeen (derived g s outcomes) fact

-- A node whose tool is run, without a record, or with a stale one.
pub record TakesOutcome (g : Graph) (s : Sources) (outcomes : Outcomes) (records : KeptRecords) (n : Node) : Type 0 where
  pub runs : (call : Call) × Runs g (derived g s outcomes) n call
  pub anew : (k : KeptRecord) → records n ≡ Some k → ¬ IsPresent g s outcomes k.fact

-- The looks of an answered derivation: one for each of these nodes, which are all that may be looked at, and one more at most for each that
-- takes an outcome.
pub record LooksAreCounted (g : Graph) (s : Sources) (outcomes : Outcomes) (records : KeptRecords) (root : Node) (first last : ℕ) : Type 0 where
  pub looked : List Node
  pub different : AreDifferent looked
  pub stepped : (n : Node) → IsIn n looked → n.steps ≡ [] → ⊥
  pub may : (n : Node) → IsIn n looked → MayLook g s outcomes records root n
  pub all : (n : Node) → MayLook g s outcomes records root n → (n.steps ≡ [] → ⊥) → IsIn n looked
  pub taken : List Node
  pub once : AreDifferent taken
  pub among : (n : Node) → IsIn n taken → IsIn n looked × TakesOutcome g s outcomes records n
  pub least : first + length looked ≤ last
  pub most : last ≤ first + length looked + length taken

-- A root whose record is checked takes just one look.
abbrev pub CheckedRootIsOne : Type 0
CheckedRootIsOne =
    (g : Graph) (s : Sources) (outcomes : Outcomes) (records : KeptRecords) (root : Node) → Knows g s outcomes records → (root.steps ≡ [] → ⊥)
    → IsChecked records root → (first last : ℕ) → LooksAreCounted g s outcomes records root first last → last ≡ first + 1
