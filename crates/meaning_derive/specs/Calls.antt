-- The calls that a derivation makes, and those at which it stops.
use Rattle.std.specs.Prelude.{◌≡◌, List, Some, None, IsSome}
use Rattle.object_values.specs.declared.nodes.Node.{Node}
use Rattle.object_values.specs.declared.calls.Call.{Call}
use Rattle.meaning_graph.specs.Graphs.{Graph}
use Rattle.meaning_texts.specs.Lists.{IsIn}
use Rattle.meaning_tasks.specs.Needs.{Results, Needs}
use Rattle.meaning_tasks.specs.Calls.{CallOf}
use Rattle.meaning_derive.specs.Derive.{Sources, Outcomes, derived}
use Rattle.meaning_derive.specs.Chains.{IsMet}

-- All needs of the node have results, and its tool is run by the call.
pub record Runs (g : Graph) (seen : Results) (n : Node) (call : Call) : Type 0 where
  pub needs : List Node
  pub listed : Needs g n seen needs
  pub known : (m : Node) → IsIn m needs → IsSome (seen m)
  pub called : CallOf g n seen (Some call)

-- A call of a met node all of whose needs have results: over Derive these are Calls(S, n).
pub record IsCallFrom (g : Graph) (seen : Results) (n : Node) (call : Call) : Type 0 where
  pub node : Node
  pub met : IsMet g seen n node
  pub runs : Runs g seen node call

-- A call at which the derivation stops, since it has no outcome: Frontier(S, n, P).
pub record IsFrontier (g : Graph) (s : Sources) (outcomes : Outcomes) (n : Node)
    (call : Call) : Type 0 where
  pub from : IsCallFrom g (derived g s outcomes) n call
  pub outside : outcomes call ≡ None
