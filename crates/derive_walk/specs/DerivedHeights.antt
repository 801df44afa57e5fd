-- Heights of nodes: those in the tables of a walk, and those of derivation.
use Rattle.std.specs.Prelude.{ℕ, zero, suc, cond, Option, Some, None, is_some}
use Rattle.object_values.specs.declared.nodes.Node.{Node}
use Rattle.meaning_texts.specs.Limits.{height_limit}
use Rattle.meaning_derive.specs.Derive.{derive}
use Rattle.derive_walk.specs.Tables.{height_or}
use Rattle.derive_walk.specs.declared.walk.Walk.{Walk}
use Rattle.derive_walk.specs.States.{heights_in}
use Rattle.derive_walk.specs.Worlds.{World}

-- the least height up to this one at which the node has a result
unfoldable pub least_height : World → Node → ℕ → Option ℕ
least_height w n zero = None
least_height w n (suc h) =
    height_or (least_height w n h)
    (cond (is_some (derive w.graph w.sources w.outcomes (suc h) n)) (Some (suc h)) None)

-- the height of a node that was visited, else the one that it has in derivation: what a checked
-- record stands for isn't visited
abbrev pub heights_or : World → Walk → Node → Option ℕ
heights_or w walk n = height_or (heights_in walk n) (least_height w n height_limit)
