-- Lists of records of nodes, of which each is of another node.
use Rattle.std.specs.Prelude.{◌≡◌, ℕ, cond, List, [], ◌∷◌, Option, Some, None, option_map, slice_get}
use Rattle.object_values.specs.declared.nodes.Node.{Node}
use Rattle.object_values.specs.contracts.nodes.NodePartialEq.TheImpl.{ghosts as node_eq}
use Rattle.object_values.specs.declared.records.Renewed.{Renewed}
use Rattle.object_values.specs.declared.records.NodeRecord.{NodeRecord}

-- the records in the order in which their nodes were first noted, and for how many more nodes there is room
pub record RecordStock : Type 0 where
  pub records : List NodeRecord
  pub room : ℕ

-- the record of the node
abbrev pub record_of : Node → List NodeRecord → Option NodeRecord
record_of node [] = None
record_of node (r ∷ records) = cond (node_eq.eq node r.node) (Some r) (record_of node records)

-- with the record in the place of its node's, or after the others
abbrev pub put_record : NodeRecord → List NodeRecord → List NodeRecord
put_record noted [] = noted ∷ []
put_record noted (r ∷ records) = cond (node_eq.eq noted.node r.node) (noted ∷ records) (r ∷ put_record noted records)

-- one record after another
abbrev pub put_records : List NodeRecord → List NodeRecord → List NodeRecord
put_records [] records = records
put_records (noted ∷ more) records = put_records more (put_record noted records)

-- the record, whose present part was settled at the epoch
abbrev pub renewed : Renewed → ℕ → NodeRecord → NodeRecord
renewed present epoch r = record {
  node = r.node;
  deps = r.deps;
  value = r.value;
  own_status = r.own_status;
  own_messages = r.own_messages;
  present = present;
  checked = Some epoch;
}

-- with the record of the node renewed
abbrev pub renew_record : Node → Renewed → ℕ → List NodeRecord → List NodeRecord
renew_record node present epoch [] = []
renew_record node present epoch (r ∷ records) =
    cond (node_eq.eq node r.node) (renewed present epoch r ∷ records) (r ∷ renew_record node present epoch records)

-- the node of the record at a place
abbrev pub node_at : List NodeRecord → ℕ → Option Node
node_at records i = option_map (λ r. r.node) (slice_get records i)

-- Each node stands there once.
abbrev pub EachNodeOnce : List NodeRecord → Type 0
EachNodeOnce records = (i j : ℕ) (node : Node) → node_at records i ≡ Some node → node_at records j ≡ Some node → i ≡ j
