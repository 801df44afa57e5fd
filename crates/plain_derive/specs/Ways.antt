-- A derivation on its way.
use Rattle.std.specs.Prelude.{◌≡◌}
use Rattle.object_values.specs.declared.nodes.Node.{Node}
use Rattle.odin_outside.specs.Spawned.{Spawned}
use Rattle.meaning_graph.specs.Graphs.{Graph}
use Rattle.meaning_derive.specs.Derive.{Sources}
use Rattle.derive_walk.specs.Outcomes.{nothing_known, after}
use Rattle.derive_walk.specs.Walks.{Walked, IsRight}
use Rattle.derive_walk.specs.Worlds.{world}
use Rattle.job_runner.specs.declared.fault.JobFault.{JobFault}
use Rattle.plain_derive.specs.Given.{calls_of, AreGiven, HaveCome}
use Rattle.plain_derive.specs.Logs.{after_calls, IsRefusedAtOnce, HasGivenUp}

-- The calls that were given outcomes were made, each outcome came of its call, and the walk is right
-- by them.
pub record IsSoFar (g : Graph) (s : Sources) (n : Node) (before : Spawned) (walked : Walked)
    (now : Spawned) : Type 0 where
  pub root : walked.root ≡ n
  pub are : AreGiven g s nothing_known n walked.given
  pub came : HaveCome before.answer walked.given
  pub now_is : now ≡ after_calls before (calls_of walked.given)
  pub right : IsRight (world g s (after nothing_known walked.given)) walked

-- what goes on from every derivation on its way, and what stops each
abbrev pub ExtendsDerivation : Walked → Spawned → Walked → Spawned → Type 0
ExtendsDerivation old before new now =
    (g : Graph) (s : Sources) (n : Node) (first : Spawned)
    → IsSoFar g s n first old before → IsSoFar g s n first new now

abbrev pub StopsWalk : Walked → Spawned → Spawned → JobFault → Type 0
StopsWalk old before now fault =
    (g : Graph) (s : Sources) (n : Node) (first : Spawned) → ¬ IsRefusedAtOnce g s n
    → IsSoFar g s n first old before → HasGivenUp g s n first now fault
