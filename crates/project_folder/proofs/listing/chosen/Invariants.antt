use Rattle.std.proofs.Common.{◌≡◌, take}
use Rattle.project_folder.specs.Listing.{chosen}
use Rattle.project_folder.proofs.listing.chosen.Given as goal

abbrev pub invariant-loop-path : goal.invariant-loop-path
invariant-loop-path l = l.names ≡ chosen l.patterns l.outputs (take l.path-index l.found)
