-- The chains that a walk ends in.
use Rattle.std.specs.Prelude.{◌≡◌, ◌<◌, ◌≤◌, List, [], ◌∷◌, ◌++◌, length, true, false, Option, Some, None}
use Rattle.object_values.specs.declared.nodes.Node.{Node}
use Rattle.meaning_texts.specs.Limits.{height_limit}
use Rattle.derive_walk.specs.declared.found.Found.{Found}
use Rattle.derive_walk.specs.declared.found.Found.TheVariants.{Answer, Circular, Deep}
use Rattle.derive_walk.specs.Tables.{node_in}

-- A chain back to the path, or with one node too many, or none.
abbrev pub IsChainTo : List Node → Node → Option Found → Type 0
IsChainTo path n None = (node_in n path ≡ false) × (length path < height_limit)
IsChainTo path n (Some (Answer view)) = ⊥
IsChainTo path n (Some (Circular chain)) = (node_in n path ≡ true) × (chain ≡ path ++ n ∷ [])
IsChainTo path n (Some (Deep chain)) =
    (node_in n path ≡ false) × (height_limit ≤ length path) × (chain ≡ path ++ n ∷ [])
