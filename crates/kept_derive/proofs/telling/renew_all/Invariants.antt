use Rattle.std.proofs.Common.{◌≡◌}
use Rattle.std.specs.Vec.Iter.{into_iter_items}
use Rattle.odin_store.specs.OnDisk.{HoldsOn}
use Rattle.kept_derive.specs.Noting.{MayRenewEach, renew_records}
use Rattle.kept_derive.proofs.telling.renew_all.Given as goal

abbrev pub invariant-loop-one : goal.invariant-loop-one
invariant-loop-one l =
    (goal.iterator-loop-one).can_next l.one-iterator
    × (goal.iterator-loop-one).is_finite l.one-iterator
    × MayRenewEach l.store.kept (into_iter_items l.one-iterator)
    × HoldsOn l.fn.store l.store
    × (renew_records l.fn.store.epoch (into_iter_items l.one-iterator) l.store.kept.records.records
    ≡ renew_records l.fn.store.epoch l.fn.renewed l.fn.store.kept.records.records)
