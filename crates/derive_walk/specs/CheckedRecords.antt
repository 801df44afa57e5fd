-- What a record that is checked tells of its node, and how the node is taken in by it.
use Rattle.std.specs.Prelude.{◌≡◌, ◌≢◌, ℕ, true, List, [], map, Option, Some, None, slice_get}
use Rattle.object_values.specs.declared.facts.FactDep.{FactDep}
use Rattle.object_values.specs.declared.nodes.Node.{Node}
use Rattle.object_values.specs.declared.records.NodeRecord.{NodeRecord}
use Rattle.meaning_true.specs.Knowing.{KeptRecord, view_kept}
use Rattle.meaning_true.specs.Numbered.{is_at}
use Rattle.derive_walk.specs.declared.done.Done.{Done}
use Rattle.derive_walk.specs.Keeping.{Keeping, IsNodeRecord}
use Rattle.derive_walk.specs.Worlds.{World}

-- The node has steps, its record is checked, and this is what it came to.
pub record HasChecked (w : World) (n : Node) (done : Done) : Type 0 where
  pub stepped : n.steps ≢ []
  pub kept : KeptRecord
  pub is : w.records n ≡ Some kept
  pub checked : kept.checked ≡ true
  pub view : done.view ≡ view_kept kept
  pub height : done.height ≡ kept.height

-- It is the node's record, and checked.
pub record IsCheckedRecord (keeping : Keeping) (n : Node) (r : NodeRecord) : Type 0 where
  pub is : IsNodeRecord keeping n r
  pub checked : is_at keeping.epoch r.checked ≡ true

-- the one at this place
abbrev pub node_at : List Node → Option ℕ → Option Node
node_at nodes None = None
node_at nodes (Some place) = slice_get nodes place

-- the dep's node that is just one lower, where the record tells it
abbrev pub tight_node : KeptRecord → Option Node
tight_node k = node_at (map (λ (d : FactDep). d.node) k.fact.deps) k.tight
