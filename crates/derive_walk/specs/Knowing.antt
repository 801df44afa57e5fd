-- The records, once what a walk tells of them is kept.
use Rattle.std.specs.Prelude.{List, [], ◌∷◌, cond, Option, Some, None, option_map}
use Rattle.object_values.specs.declared.nodes.Node.{Node}
use Rattle.object_values.specs.contracts.nodes.NodePartialEq.TheImpl.{ghosts as node_eq}
use Rattle.object_values.specs.declared.records.Renewed.{Renewed}
use Rattle.object_values.specs.declared.facts.Fresh.{Fresh}
use Rattle.object_values.specs.declared.facts.RenewedNode.{RenewedNode}
use Rattle.meaning_true.specs.Knowing.{KeptRecord, KeptRecords}
use Rattle.derive_walk.specs.Told.{noted_record, renewed_record}

-- what is noted of the node
abbrev pub noted_of : List Fresh → Node → Option KeptRecord
noted_of [] n = None
noted_of (f ∷ fresh) n = cond (node_eq.eq n f.fact.node) (Some (noted_record f)) (noted_of fresh n)

-- what its record came to
abbrev pub present_of : List RenewedNode → Node → Option Renewed
present_of [] n = None
present_of (r ∷ renewed) n = cond (node_eq.eq n r.node) (Some r.present) (present_of renewed n)

-- the record, with what it came to
abbrev pub renewed_if : Option Renewed → KeptRecord → KeptRecord
renewed_if None k = k
renewed_if (Some present) k = renewed_record present k

-- what is noted, and else what is kept
abbrev pub noted_or : Option KeptRecord → Option KeptRecord → Option KeptRecord
noted_or None kept = kept
noted_or (Some noted) kept = Some noted

-- the records, with what is told of them
abbrev pub records_with : List Fresh → List RenewedNode → KeptRecords → KeptRecords
records_with fresh renewed records n =
    noted_or (noted_of fresh n) (option_map (renewed_if (present_of renewed n)) (records n))
