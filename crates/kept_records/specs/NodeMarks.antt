-- The marks of nodes, by which their records are found.
use Rattle.std.specs.Prelude.{ℕ, List, [], ◌∷◌}
use Rattle.std.specs.List.{fold}
use Rattle.std.specs.Hash.FoldHasher as folding
use Rattle.content_store.specs.Digesting as digesting
use Rattle.content_store.specs.Marks.{IsIndex}
use Rattle.content_store.specs.declared.marks.Mark.{Mark}
use Rattle.content_store.specs.declared.marks.Mark.TheVariants.{Quick, Digest}
use Rattle.content_store.specs.declared.marks.Marks.{Marks}
use Rattle.object_values.specs.declared.nodes.Node.{Node}
use Rattle.object_values.specs.contracts.nodes.NodeHash.TheImpl.{ghosts as node_hash}
use Rattle.object_values.specs.declared.records.NodeRecord.{NodeRecord}
use Rattle.kept_records.specs.Records.{node_at}

unfoldable pub hash_of : Node → ℕ
hash_of node = folding.finish (fold folding.write folding.initial (node_hash.hash_input node))

unfoldable pub digest_of : Node → List ℕ
digest_of node = digesting.digest (fold digesting.write digesting.initial (node_hash.hash_input node))

-- from the cheapest on
abbrev pub marks_of : Node → List Mark
marks_of node = Quick (hash_of node) ∷ Digest (digest_of node) ∷ []

-- Each node stands once, and is found by its marks.
abbrev pub IsNodeIndex : List NodeRecord → Marks → Type 0
IsNodeIndex records marks = IsIndex (node_at records) marks_of marks
