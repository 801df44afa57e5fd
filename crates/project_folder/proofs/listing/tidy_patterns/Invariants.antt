use Rattle.std.proofs.Common.{◌≡◌, map, take}
use Rattle.build_files.specs.Paths.{tidied}
use Rattle.project_folder.proofs.listing.tidy_patterns.Given as goal

abbrev pub invariant-loop-pattern : goal.invariant-loop-pattern
invariant-loop-pattern l = l.tidy_ones ≡ map tidied (take l.pattern-index l.patterns)
