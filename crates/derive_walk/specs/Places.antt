-- The places of records, and the nodes whose places a walk remembers.
use Rattle.std.specs.Prelude.{ℕ, List, map, Option, Some, None}
use Rattle.std.specs.Map.{lookup}
use Rattle.object_values.specs.declared.nodes.Node.{Node}
use Rattle.object_values.specs.contracts.nodes.NodePartialEq.TheImpl.{ghosts as node_eq}
use Rattle.meaning_true.specs.Knowing.{KeptRecord}

-- the record at each place
abbrev pub KeptPlaces : Type 0
KeptPlaces = ℕ → Option KeptRecord

-- without a record
abbrev pub no_places : KeptPlaces
no_places place = None

-- what is at the place, where there is one
abbrev pub at_place : {A : Type 0} → (ℕ → Option A) → Option ℕ → Option A
at_place placed None = None
at_place placed (Some place) = placed place

-- ---- the nodes that were looked at

-- each with the place of its record, where it has one
abbrev pub Lookups : Type 0
Lookups = List (Node × Option ℕ)

-- what was found of a node, where it was looked at
abbrev pub place_in : Lookups → Node → Option (Option ℕ)
place_in looked n = lookup (node_eq.eq n) looked

abbrev pub looked_nodes : Lookups → List Node
looked_nodes looked = map (λ e. e.0) looked
