use Rattle.std.proofs.Common.{◌≡◌, take}
use Rattle.project_folder.specs.Listing.{outputs_of}
use Rattle.project_folder.proofs.listing.tidy_outputs.Given as goal

abbrev pub invariant-loop-target : goal.invariant-loop-target
invariant-loop-target l = l.outputs ≡ outputs_of (take l.target-index l.targets)
