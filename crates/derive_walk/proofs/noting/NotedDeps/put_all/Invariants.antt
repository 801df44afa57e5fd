use Rattle.std.proofs.Common.{◌≡◌, ◌++◌, map}
use Rattle.std.specs.Vec.Iter.{into_iter_items}
use Rattle.derive_walk.specs.Noting.{dep_now, tight_in}
use Rattle.derive_walk.proofs.noting.NotedDeps.put_all.Given as goal

abbrev pub invariant-loop-node : goal.invariant-loop-node
invariant-loop-node l =
    (goal.iterator-loop-node).can_next l.node-iterator
    × (goal.iterator-loop-node).is_finite l.node-iterator
    × (l.self.deps ++ map (dep_now l.done l.role) (into_iter_items l.node-iterator) ≡ l.fn.self.deps ++ map (dep_now l.done l.role) l.fn.nodes)
    × (l.fn.self.tight ≡ tight_in l.done l.below l.fn.self.deps → l.self.tight ≡ tight_in l.done l.below l.self.deps)
