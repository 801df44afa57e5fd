use Rattle.std.proofs.Common.{◌≡◌, map, take}
use Rattle.kept_notes.specs.Facts.{dep_of}
use Rattle.kept_notes.proofs.facts.fact_deps.Given as goal

abbrev pub invariant-loop-dep : goal.invariant-loop-dep
invariant-loop-dep l = l.made ≡ map (dep_of l.table.contents) (take l.dep-index l.deps)
