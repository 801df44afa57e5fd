use Rattle.std.proofs.Common.{◌≡◌, ◌≤◌, length, drop}
use Rattle.validator.specs.Verdicts.{difference}
use Rattle.validator.proofs.Places.{places_on}
use Rattle.validator.proofs.comparing.difference.Given as goal

abbrev pub invariant-loop-dep : goal.invariant-loop-dep
invariant-loop-dep l = (l.place ≡ l.dep-index) × (l.dep-index ≤ length l.now) × (difference l.deps l.now ≡ places_on l.dep-index (difference (drop l.dep-index l.deps) (drop l.dep-index l.now)))
