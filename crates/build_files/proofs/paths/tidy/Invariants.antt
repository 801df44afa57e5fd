use Rattle.std.proofs.Common.{length}
use Rattle.build_files.proofs.PathLemmas.{Walks}
use Rattle.build_files.proofs.paths.tidy.Given as goal

abbrev pub invariant-pieces : goal.invariant-pieces
invariant-pieces l = Walks l.fn.folder l.path l.rest

abbrev pub decreases-pieces : goal.decreases-pieces
decreases-pieces l = length l.rest
