-- What is told of a node that is settled.
use Rattle.std.specs.Prelude.{◌≡◌, Option}
use Rattle.object_values.specs.declared.nodes.Node.{Node}
use Rattle.object_values.specs.declared.calls.Outcome.{Outcome}
use Rattle.meaning_graph.specs.Graphs.{Graph}
use Rattle.meaning_tasks.specs.Tasks.{Own}
use Rattle.meaning_tasks.specs.Needs.{Results}
use Rattle.meaning_tasks.specs.Settle.{SettlesWith}
use Rattle.node_tasks.specs.declared.settling.Settled.{Settled}

-- The view that the node settles to, what it gives itself, and how many of its needs are reached
-- sources.
pub record SettlesSo (g : Graph) (n : Node) (seen : Results) (outcome : Option Outcome)
    (settled : Settled) : Type 0 where
  pub own : Own
  pub settles : SettlesWith g n seen outcome own settled.view settled.reached
  pub status : settled.own_status ≡ own.status
  pub messages : settled.own_messages ≡ own.messages
