use Rattle.std.proofs.Common.{◌≡◌, ◌+◌, ◌++◌, drop, length}
use Rattle.kept_notes.specs.Loaded.{loaded_deps}
use Rattle.kept_notes.proofs.numbering.noted_deps.Given as goal

abbrev pub invariant-loop-dep : goal.invariant-loop-dep
invariant-loop-dep l =
    (l.more + l.dep-index ≡ length l.deps)
    × (l.noted ++ loaded_deps l.reached (drop l.dep-index l.deps) ≡ loaded_deps l.reached l.deps)
