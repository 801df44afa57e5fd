-- What a record says of the present results, where it is checked.
use Rattle.std.specs.Prelude.{◌≡◌, ◌⊎◌, ℕ, suc, ◌<◌, ◌≤◌, List, ◌∷◌, Some}
use Rattle.object_values.specs.declared.nodes.Node.{Node}
use Rattle.object_values.specs.declared.views.View.{View}
use Rattle.meaning_texts.specs.Limits.{height_limit}
use Rattle.meaning_texts.specs.Lists.{IsIn}
use Rattle.meaning_graph.specs.Graphs.{Graph}
use Rattle.meaning_tasks.specs.Needs.{Results, Needs, values_of, nodes_of}
use Rattle.meaning_derive.specs.Derive.{Sources, Outcomes, derive, derived, HasHeight}
use Rattle.meaning_derive.specs.Laws.{HasMore}
use Rattle.object_values.specs.declared.facts.FactDep.{FactDep}
use Rattle.object_values.specs.declared.facts.Fact.{Fact}
use Rattle.meaning_true.specs.Facts.{RecordIsTrue, IsAsSeen, needs_in, view_of_record}

-- The deps are the node's needs, each as it was seen, and this is its result, at its height.
pub record RecordHolds (g : Graph) (s : Sources) (outcomes : Outcomes) (fact : Fact) (view : View) (height : ℕ) : Type 0 where
  pub needs : Needs g fact.node (derived g s outcomes) (nodes_of (needs_in fact.deps))
  pub seen : IsAsSeen (derived g s outcomes) fact
  pub value : view.value ≡ fact.value
  pub high : height ≤ height_limit
  pub is : derive g s outcomes height fact.node ≡ Some view
  pub has : HasHeight g s outcomes fact.node height

-- The dep's node is this high, and has the value that was seen.
pub record IsDepAt (g : Graph) (s : Sources) (outcomes : Outcomes) (d : FactDep) (height : ℕ) : Type 0 where
  pub has : HasHeight g s outcomes d.node height
  pub seen : values_of (derived g s outcomes) d.node ≡ Some d.value

-- A true record whose deps have the values that were seen, at heights of which this is the greatest, holds one above it.
abbrev pub RecordRenews : Type 0
RecordRenews =
    (g : Graph) (s : Sources) (outcomes : Outcomes) (fact : Fact) → RecordIsTrue g outcomes fact
    → (heights : Node → ℕ) (top : ℕ) → top < height_limit
    → ((d : FactDep) → IsIn d fact.deps → IsDepAt g s outcomes d (heights d.node) × (heights d.node ≤ top))
    → ((top ≡ 0) ⊎ ((d : FactDep) × IsIn d fact.deps × (heights d.node ≡ top)))
    → RecordHolds g s outcomes fact (view_of_record (derived g s outcomes) fact) (suc top)

-- What holds of a record holds as more outcomes come.
abbrev pub HoldsStays : Type 0
HoldsStays =
    (g : Graph) (s : Sources) (outcomes more : Outcomes) → HasMore outcomes more → (fact : Fact) (view : View) (height : ℕ)
    → RecordHolds g s outcomes fact view height → RecordHolds g s more fact view height

-- The first dep of a true record is a need of its node by all results by which it has needs.
abbrev pub FirstIsNeed : Type 0
FirstIsNeed =
    (g : Graph) (outcomes : Outcomes) (fact : Fact) → RecordIsTrue g outcomes fact → (d : FactDep) (rest : List FactDep) → fact.deps ≡ d ∷ rest
    → (now : Results) (needs : List Node) → Needs g fact.node now needs → IsIn d.node needs
