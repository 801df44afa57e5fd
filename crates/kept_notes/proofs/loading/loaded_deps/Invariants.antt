use Rattle.std.proofs.Common.{◌≡◌, ◌++◌, length}
use Rattle.std.specs.Vec.Iter.{into_iter_items}
use Rattle.kept_notes.specs.Loaded.{loaded_deps}
use Rattle.kept_notes.proofs.loading.loaded_deps.Given as goal

abbrev pub invariant-loop-dep : goal.invariant-loop-dep
invariant-loop-dep l =
    (goal.iterator-loop-dep).can_next l.dep-iterator ×
    (goal.iterator-loop-dep).is_finite l.dep-iterator ×
    (l.more ≡ length (into_iter_items l.dep-iterator)) ×
    (l.loaded.items ++ loaded_deps l.reached (into_iter_items l.dep-iterator) ≡ loaded_deps l.reached l.fn.deps)
