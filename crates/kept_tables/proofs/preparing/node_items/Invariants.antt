use Rattle.std.proofs.Common.{◌≡◌, ◌++◌, map}
use Rattle.std.specs.Vec.Iter.{into_iter_items}
use Rattle.object_values.specs.declared.items.Item.TheVariants.{Node}
use Rattle.kept_tables.proofs.preparing.node_items.Given as goal

abbrev pub invariant-loop-record : goal.invariant-loop-record
invariant-loop-record l =
    (goal.iterator-loop-record).can_next l.record-iterator
    × (goal.iterator-loop-record).is_finite l.record-iterator
    × (l.items ++ map Node (into_iter_items l.record-iterator) ≡ map Node l.fn.stored)
