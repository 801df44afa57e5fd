use Rattle.std.proofs.Common.{◌≡◌, length}
use Rattle.project_file.specs.Places.{leads_on}
use Rattle.project_file.proofs.StepLemmas.{some_step}
use Rattle.project_file.proofs.places.some_step_leads_on.Given as goal

abbrev pub invariant-steps : goal.invariant-steps
invariant-steps l = some_step leads_on l.path ≡ some_step leads_on l.rest

abbrev pub decreases-steps : goal.decreases-steps
decreases-steps l = length l.rest
