-- What the laws of node records say.
use Rattle.std.specs.Prelude.{◌≡◌, ℕ, suc, Some}
use Rattle.meaning_graph.specs.Graphs.{Graph}
use Rattle.meaning_texts.specs.Lists.{IsIn}
use Rattle.meaning_tasks.specs.Maps.{IsResultOf}
use Rattle.meaning_tasks.specs.Needs.{Needs, nodes_of}
use Rattle.meaning_derive.specs.Derive.{Sources, Outcomes, derive}
use Rattle.meaning_derive.specs.Laws.{HasMore}
use Rattle.object_values.specs.declared.facts.FactDep.{FactDep}
use Rattle.object_values.specs.declared.facts.Fact.{Fact}
use Rattle.meaning_true.specs.Facts.{RecordIsTrue, IsAsSeen, needs_in, view_seen, view_of_record}

-- Where each dep of a true record is as it was seen at a height, the deps are the node's needs there, and one height up the node has the
-- record's value, with the status and the messages that the needs and the record's own ones come to.
pub record Settled (g : Graph) (s : Sources) (outcomes : Outcomes) (h : ℕ) (fact : Fact) : Type 0 where
  pub needs : Needs g fact.node (derive g s outcomes h) (nodes_of (needs_in fact.deps))
  pub is : derive g s outcomes (suc h) fact.node ≡ Some (view_of_record (derive g s outcomes h) fact)

abbrev pub TrueRecordSettles : Type 0
TrueRecordSettles =
    (g : Graph) (s : Sources) (outcomes : Outcomes) (h : ℕ) (fact : Fact) → RecordIsTrue g outcomes fact
    → IsAsSeen (derive g s outcomes h) fact → Settled g s outcomes h fact

-- What a true record saw of each dep is a result of the dep's node.
abbrev pub TrueRecordSeesResults : Type 0
TrueRecordSeesResults =
    (g : Graph) (outcomes : Outcomes) (fact : Fact) → RecordIsTrue g outcomes fact
    → (d : FactDep) → IsIn d fact.deps → IsResultOf g d.node (view_seen d.value)

abbrev pub TruthGrows : Type 0
TruthGrows =
    (g : Graph) (outcomes more : Outcomes) → HasMore outcomes more → (fact : Fact)
    → RecordIsTrue g outcomes fact → RecordIsTrue g more fact
