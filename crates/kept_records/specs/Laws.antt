-- What the laws of records of nodes say.
use Rattle.std.specs.Prelude.{◌≡◌, ◌≢◌, ℕ, List, [], ◌∷◌, ◌++◌, Option, Some, None, IsSome, map, option_map}
use Rattle.object_values.specs.declared.messages.Status.{Status}
use Rattle.object_values.specs.declared.messages.Message.{Message}
use Rattle.object_values.specs.declared.nodes.Node.{Node}
use Rattle.object_values.specs.declared.records.Dep.{Dep}
use Rattle.object_values.specs.declared.records.Renewed.{Renewed}
use Rattle.object_values.specs.declared.records.NodeRecord.{NodeRecord}
use Rattle.kept_records.specs.Records.{EachNodeOnce, put_record, record_of, renew_record, renewed}

abbrev pub nodes_of : List NodeRecord → List Node
nodes_of records = map (λ r. r.node) records

pub record PutsAreExact : Type 0 where
  -- The node's record is the one that was put, and each other's is what it was.
  pub own : (noted : NodeRecord) (records : List NodeRecord) → record_of noted.node (put_record noted records) ≡ Some noted
  pub others : (noted : NodeRecord) (node : Node) (records : List NodeRecord) → node ≢ noted.node
      → record_of node (put_record noted records) ≡ record_of node records
  -- The nodes stay in their order, and a new one comes last.
  pub nodes_stay : (noted : NodeRecord) (records : List NodeRecord) → IsSome (record_of noted.node records)
      → nodes_of (put_record noted records) ≡ nodes_of records
  pub new_last : (noted : NodeRecord) (records : List NodeRecord) → record_of noted.node records ≡ None
      → put_record noted records ≡ records ++ noted ∷ []
  pub once : (noted : NodeRecord) (records : List NodeRecord) → EachNodeOnce records → EachNodeOnce (put_record noted records)

-- all of a record but what is settled again at each check
abbrev pub Lasting : Type 0
Lasting = Node × (List Dep × (Option ℕ × (Status × List Message)))

abbrev pub lasting_of : NodeRecord → Lasting
lasting_of r = (r.node, (r.deps, (r.value, (r.own_status, r.own_messages))))

pub record RenewalsAreExact : Type 0 where
  -- The node's record is renewed, and each other's is what it was.
  pub own : (node : Node) (present : Renewed) (epoch : ℕ) (records : List NodeRecord)
      → record_of node (renew_record node present epoch records) ≡ option_map (renewed present epoch) (record_of node records)
  pub others : (node other : Node) (present : Renewed) (epoch : ℕ) (records : List NodeRecord) → other ≢ node
      → record_of other (renew_record node present epoch records) ≡ record_of other records
  -- Of no record anything else changes, and none goes elsewhere.
  pub lasting : (node : Node) (present : Renewed) (epoch : ℕ) (records : List NodeRecord)
      → map lasting_of (renew_record node present epoch records) ≡ map lasting_of records
  pub once : (node : Node) (present : Renewed) (epoch : ℕ) (records : List NodeRecord) → EachNodeOnce records
      → EachNodeOnce (renew_record node present epoch records)
