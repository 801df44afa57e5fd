-- Which nodes of records fit a graph, while records are noted.
use Rattle.std.specs.Prelude.{◌≡◌, ◌≢◌, List, IsSome}
use Rattle.object_values.specs.declared.nodes.Node.{Node}
use Rattle.object_values.specs.declared.records.NodeRecord.{NodeRecord}
use Rattle.meaning_graph.specs.Graphs.{Graph}
use Rattle.meaning_tasks.specs.Nodes.{Fits}
use Rattle.kept_records.specs.Records.{record_of}

-- each node that has a record
abbrev pub NodesFit : Graph → List NodeRecord → Type 0
NodesFit g records = (node : Node) → IsSome (record_of node records) → Fits g node

-- each but this one
abbrev pub OthersFit : Graph → List NodeRecord → Node → Type 0
OthersFit g records own = (node : Node) → node ≢ own → IsSome (record_of node records) → Fits g node
