use Rattle.std.proofs.Common.{◌≡◌, length}
use Rattle.project_folder.specs.Written.{double_among}
use Rattle.project_folder.proofs.written.double_among.Given as goal

abbrev pub invariant-paths : goal.invariant-paths
invariant-paths l = double_among l.paths ≡ double_among l.rest

abbrev pub decreases-paths : goal.decreases-paths
decreases-paths l = length l.rest
