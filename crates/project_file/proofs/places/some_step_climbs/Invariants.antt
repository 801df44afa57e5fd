use Rattle.std.proofs.Common.{◌≡◌, length}
use Rattle.project_file.specs.Places.{climbs}
use Rattle.project_file.proofs.StepLemmas.{some_step}
use Rattle.project_file.proofs.places.some_step_climbs.Given as goal

abbrev pub invariant-steps : goal.invariant-steps
invariant-steps l = some_step climbs l.path ≡ some_step climbs l.rest

abbrev pub decreases-steps : goal.decreases-steps
decreases-steps l = length l.rest
