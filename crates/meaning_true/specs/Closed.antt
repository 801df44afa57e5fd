-- What is noted of a node that was closed over some results.
use Rattle.std.specs.Prelude.{◌≡◌, ◌≢◌, List, [], Option, Some}
use Rattle.object_values.specs.declared.views.View.{View}
use Rattle.object_values.specs.declared.calls.Outcome.{Outcome}
use Rattle.meaning_texts.specs.Lists.{IsIn}
use Rattle.meaning_graph.specs.Graphs.{Text, Graph}
use Rattle.meaning_tasks.specs.Nodes.{Fits}
use Rattle.meaning_tasks.specs.Labels.{label_of}
use Rattle.meaning_tasks.specs.Tasks.{Own, task_of}
use Rattle.meaning_tasks.specs.Needs.{Results, values_of, task_needs, counted_needs, ReachedNames}
use Rattle.meaning_tasks.specs.Calls.{call_of}
use Rattle.meaning_tasks.specs.Settle.{stepped_own, settled}
use Rattle.meaning_tasks.specs.Maps.{IsResultOf}
use Rattle.meaning_derive.specs.Derive.{Outcomes, outcome_for}
use Rattle.object_values.specs.declared.facts.FactDep.{FactDep}
use Rattle.object_values.specs.declared.facts.Fact.{Fact}
use Rattle.meaning_true.specs.Facts.{RecordIsTrue, needs_in}

-- a dep with the value of the node's result, which is one of the node
pub record IsSeen (g : Graph) (seen : Results) (d : FactDep) : Type 0 where
  pub view : View
  pub is : seen d.node ≡ Some view
  pub value : view.value ≡ d.value
  pub result : IsResultOf g d.node view

-- The deps are the node's needs by these results, and the rest is what it settles to over them.
pub record IsClosedBy (g : Graph) (outcomes : Outcomes) (seen : Results) (fact : Fact) : Type 0 where
  pub fits : Fits g fact.node
  pub stepped : fact.node.steps ≢ []
  pub each : (d : FactDep) → IsIn d fact.deps → IsSeen g seen d
  pub names : List Text
  pub reached : ReachedNames g fact.node seen names
  pub needs : needs_in fact.deps ≡ task_needs (task_of g fact.node) (values_of seen) names
  pub outcome : Option Outcome
  pub given : outcome_for outcomes (call_of g (task_of g fact.node) (values_of seen) names) ≡ Some outcome
  pub own : Own
  pub own_is : own ≡ stepped_own (label_of g fact.node) (task_of g fact.node) (values_of seen) outcome
  pub value : fact.value ≡ (settled seen own (counted_needs (task_of g fact.node) (values_of seen) names)).value
  pub status : fact.own_status ≡ own.status
  pub messages : fact.own_messages ≡ own.messages

abbrev pub ClosedIsTrue : Type 0
ClosedIsTrue = (g : Graph) (outcomes : Outcomes) (seen : Results) (fact : Fact) → IsClosedBy g outcomes seen fact → RecordIsTrue g outcomes fact
