-- A height by one need.
use Rattle.std.proofs.Common.{◌≡◌, ◌⊎◌, ℕ, zero, suc, ◌≤◌, ◌<◌, inl, inr, refl, arith}
use Rattle.std.specs.Prelude.{None, IsSome}
use Rattle.object_values.specs.declared.nodes.Node.{Node}
use Rattle.meaning_texts.specs.Limits.{height_limit}
use Rattle.meaning_graph.specs.Graphs.{Graph}
use Rattle.meaning_derive.specs.Derive.{Sources, Outcomes, derive, derived, HasHeight}
use Rattle.meaning_derive.specs.Chains.{IsNeed}
use Rattle.meaning_derive.proofs.Carry.{none_by_need}

nothing_there : (g : Graph) (s : Sources) (outcomes : Outcomes) (n : Node) → derive g s outcomes 0 n ≡ None
unfolding derive
nothing_there g s outcomes n = refl

pub height_above : (g : Graph) (s : Sources) (outcomes : Outcomes) (n : Node) (h : ℕ) → h ≤ height_limit → IsSome (derive g s outcomes (suc h) n) → ((h ≡ 0) ⊎ ((m : Node) × IsNeed g (derived g s outcomes) n m × HasHeight g s outcomes m h)) → HasHeight g s outcomes n (suc h)
height_above g s outcomes n h le there why = record { there = there; least = least }
  where
    least : (k : ℕ) → k < suc h → derive g s outcomes k n ≡ None
    least zero l = nothing_there g s outcomes n
    least (suc j) l = by_cause why
      where
        by_cause : ((h ≡ 0) ⊎ ((m : Node) × IsNeed g (derived g s outcomes) n m × HasHeight g s outcomes m h)) → derive g s outcomes (suc j) n ≡ None
        by_cause (inl e) = absurd (omega (arith, e, l))
        by_cause (inr (m, need, high)) = none_by_need g s outcomes j (omega (arith, le, l)) n m need (high.least j (omega (arith, l)))
