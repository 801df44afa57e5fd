use Rattle.std.proofs.Common.{map, take, option_map, ℕ, List, Bor}
use Rattle.near_names.specs.declared.near.Near.{Near}
use Rattle.near_names.specs.Nearest.{IsSoFar}
use Rattle.near_names.proofs.near.nearest_of.Given as goal

abbrev pub invariant-loop-name : goal.invariant-loop-name
invariant-loop-name l =
    IsSoFar l.word (map (λ (name : Bor (List ℕ)). name.now) (take l.name-index l.names)) (option_map (λ (near : Near). (near.name.now, near.away)) l.best)
