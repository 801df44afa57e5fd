-- The type after the steps so far.
use Rattle.odin_nodes.proofs.TypeLemmas.{IsFollowed}
use Rattle.odin_nodes.proofs.types.type_after.Given as goal

abbrev pub invariant-loop-step : goal.invariant-loop-step
invariant-loop-step l = IsFollowed l.graph l.fn.from l.steps l.step-index l.at
