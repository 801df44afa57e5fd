-- No maker so far leads to the type.
use Rattle.std.proofs.Common.{ℕ, ◌<◌}
use Rattle.path_planner.specs.Direct.{LeadsTo}
use Rattle.path_planner.proofs.direct.direct.Given as goal

abbrev pub invariant-loop-number : goal.invariant-loop-number
invariant-loop-number l = (number next : ℕ) → number < l.number → LeadsTo l.graph l.at l.to number next → ⊥
