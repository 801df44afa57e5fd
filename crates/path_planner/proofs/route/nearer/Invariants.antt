-- No maker so far leads to the distance.
use Rattle.std.proofs.Common.{ℕ, take}
use Rattle.meaning_texts.specs.Lists.{IsIn}
use Rattle.path_planner.specs.Near.{MakesAtDistance}
use Rattle.path_planner.proofs.route.nearer.Given as goal

abbrev pub invariant-loop-number : goal.invariant-loop-number
invariant-loop-number l = (number next : ℕ) → IsIn number (take l.number-index l.takers) → MakesAtDistance l.graph l.near l.at l.distance number next → ⊥
