-- What a walk tells of the nodes with steps that got their results: what is noted of those that were settled, and what the records of the others came to.
use Rattle.std.specs.Prelude.{◌≡◌, ◌≢◌, ◌⊎◌, true, List, [], ◌∷◌, ◌++◌, map, Some}
use Rattle.object_values.specs.declared.nodes.Node.{Node}
use Rattle.object_values.specs.declared.records.Renewed.{Renewed}
use Rattle.object_values.specs.declared.facts.Fresh.{Fresh}
use Rattle.object_values.specs.declared.facts.RenewedNode.{RenewedNode}
use Rattle.meaning_texts.specs.Lists.{IsIn}
use Rattle.meaning_derive.specs.Chains.{AreDifferent}
use Rattle.meaning_records.specs.Batches.{IsNotable}
use Rattle.meaning_true.specs.Facts.{RecordIsTrue}
use Rattle.meaning_true.specs.Knowing.{KeptRecord, IsChecked, IsPresent, TellsTight}
use Rattle.validator.specs.Fitting.{FactFits}
use Rattle.derive_walk.specs.declared.done.Done.{Done}
use Rattle.derive_walk.specs.declared.walk.Walk.{Walk}
use Rattle.derive_walk.specs.Tables.{Entries, done_in}
use Rattle.derive_walk.specs.Worlds.{World}

-- what the node came to
pub record ComesTo (d : Done) (present : Renewed) : Type 0 where
  pub status : present.status ≡ d.view.status
  pub messages : present.messages ≡ d.view.messages
  pub height : present.height ≡ d.height

-- The node has a result, and this is a true record of it, which fits the graph and may be noted.
pub record IsFreshIn (w : World) (done : Entries) (fresh : Fresh) : Type 0 where
  pub truth : RecordIsTrue w.graph w.outcomes fresh.fact
  pub fits : FactFits w.graph fresh.fact
  pub notable : IsNotable fresh
  pub entry : Done
  pub is : done_in done fresh.fact.node ≡ Some entry
  pub value : fresh.fact.value ≡ entry.view.value
  pub comes : ComesTo entry fresh.present

-- The node has steps, and its result is by its record, which came to this.
pub record IsRenewedIn (w : World) (done : Entries) (renewed : RenewedNode) : Type 0 where
  pub stepped : renewed.node.steps ≢ []
  pub kept : KeptRecord
  pub has : w.records renewed.node ≡ Some kept
  pub entry : Done
  pub is : done_in done renewed.node ≡ Some entry
  pub value : kept.fact.value ≡ entry.view.value
  pub comes : ComesTo entry renewed.present

abbrev pub fresh_nodes : List Fresh → List Node
fresh_nodes = map (λ f. f.fact.node)

abbrev pub renewed_nodes : List RenewedNode → List Node
renewed_nodes = map (λ r. r.node)

-- Each node with steps that has a result has a record that is checked, or stands once in just one of the lists.
pub record AreTold (w : World) (done : Entries) (fresh : List Fresh) (renewed : List RenewedNode) : Type 0 where
  pub noted : (f : Fresh) → IsIn f fresh → IsFreshIn w done f
  pub kept : (r : RenewedNode) → IsIn r renewed → IsRenewedIn w done r
  pub once : AreDifferent (fresh_nodes fresh)
  pub kept_once : AreDifferent (renewed_nodes renewed)
  pub apart : (n : Node) → IsIn n (fresh_nodes fresh) → IsIn n (renewed_nodes renewed) → ⊥
  pub all : (n : Node) (d : Done) → done_in done n ≡ Some d → n.steps ≢ []
      → IsChecked w.records n ⊎ (IsIn n (fresh_nodes fresh) ⊎ IsIn n (renewed_nodes renewed))

-- ---- as records

-- what is noted of a node, as a record that is checked
abbrev pub noted_record : Fresh → KeptRecord
noted_record f = record {
  fact = f.fact;
  status = f.present.status;
  messages = f.present.messages;
  height = f.present.height;
  tight = f.present.tight;
  checked = true;
}

-- a record that came to this
abbrev pub renewed_record : Renewed → KeptRecord → KeptRecord
renewed_record present k = record {
  fact = k.fact;
  status = present.status;
  messages = present.messages;
  height = present.height;
  tight = present.tight;
  checked = true;
}

-- ---- where what is kept is true

abbrev pub IsPresentIn : World → KeptRecord → Type 0
IsPresentIn w k = IsPresent w.graph w.sources w.outcomes k.fact

-- What is noted is over the present needs, and no record of its node is; each record that came to something is. Each of both is at height 1, or
-- tells the place of a dep that is just one lower.
pub record AreToldRightly (w : World) (fresh : List Fresh) (renewed : List RenewedNode) : Type 0 where
  pub present : (f : Fresh) → IsIn f fresh → IsPresent w.graph w.sources w.outcomes f.fact
  pub anew : (f : Fresh) → IsIn f fresh → (k : KeptRecord) → w.records f.fact.node ≡ Some k
      → ¬ IsPresentIn w k
  pub tight : (f : Fresh) → IsIn f fresh → TellsTight w.graph w.sources w.outcomes (noted_record f)
  pub current : (r : RenewedNode) → IsIn r renewed → (k : KeptRecord) → w.records r.node ≡ Some k
      → IsPresentIn w k
  pub renewed_tight : (r : RenewedNode) → IsIn r renewed → (k : KeptRecord)
      → w.records r.node ≡ Some k
      → TellsTight w.graph w.sources w.outcomes (renewed_record r.present k)

-- ---- one node more

-- The node is there with its result, and what is noted of it stands last.
pub record TakesSettled (old new : Walk) (n : Node) (d : Done) (f : Fresh) : Type 0 where
  pub is : new ≡ record old { done = old.done ++ (n, d) ∷ []; fresh = old.fresh ++ f ∷ [] }

-- The same of what its record came to.
pub record TakesRenewed (old new : Walk) (n : Node) (d : Done) (r : RenewedNode) : Type 0 where
  pub is : new ≡ record old { done = old.done ++ (n, d) ∷ []; renewed = old.renewed ++ r ∷ [] }
