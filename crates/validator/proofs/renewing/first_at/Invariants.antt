use Rattle.std.proofs.Common.{◌≡◌, drop}
use Rattle.validator.specs.Verdicts.{first_at}
use Rattle.validator.proofs.Places.{places_on}
use Rattle.validator.proofs.renewing.first_at.Given as goal

abbrev pub invariant-loop-need : goal.invariant-loop-need
invariant-loop-need l = (l.place ≡ l.need-index) × (first_at l.height l.now ≡ places_on l.need-index (first_at l.height (drop l.need-index l.now)))
