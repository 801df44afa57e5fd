use Rattle.std.proofs.Common.{◌≡◌, length}
use Rattle.call_layout.specs.Labels.{stays_below}
use Rattle.call_layout.proofs.labels.stays_below.Given as goal

abbrev pub invariant-steps : goal.invariant-steps
invariant-steps l = stays_below l.path ≡ stays_below l.rest

abbrev pub decreases-steps : goal.decreases-steps
decreases-steps l = length l.rest
