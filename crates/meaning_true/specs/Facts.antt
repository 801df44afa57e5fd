-- What a node record says of its node: its needs with the values that were seen of them, and what the node itself gave.
use Rattle.std.specs.Prelude.{◌≡◌, ◌≢◌, cond, List, [], ◌∷◌, map, filter, Option, Some, None, option_map}
use Rattle.object_values.specs.declared.messages.Status.{Status}
use Rattle.object_values.specs.declared.messages.Status.TheVariants.{Ok, Abort}
use Rattle.object_values.specs.declared.nodes.Node.{Node}
use Rattle.object_values.specs.contracts.nodes.NodePartialEq.TheImpl.{ghosts as node_eq}
use Rattle.object_values.specs.declared.views.Value.{Value}
use Rattle.object_values.specs.declared.views.View.{View}
use Rattle.object_values.specs.declared.calls.Outcome.{Outcome}
use Rattle.object_values.specs.declared.records.Role.{Role}
use Rattle.object_values.specs.declared.records.Role.TheVariants.{Needed, Reached}
use Rattle.object_values.specs.declared.facts.FactDep.{FactDep}
use Rattle.object_values.specs.declared.facts.Fact.{Fact}
use Rattle.meaning_texts.specs.Lists.{IsIn}
use Rattle.meaning_graph.specs.Graphs.{Text, Graph}
use Rattle.meaning_tasks.specs.Nodes.{Fits}
use Rattle.meaning_tasks.specs.Labels.{label_of}
use Rattle.meaning_tasks.specs.Values.{inherit}
use Rattle.meaning_tasks.specs.Tasks.{Own, task_of}
use Rattle.meaning_tasks.specs.Needs as tasks
use Rattle.meaning_tasks.specs.Needs.{Results, Known, values_of, is_counted, nodes_of, task_needs, counted_needs, ReachedNames}
use Rattle.meaning_tasks.specs.Calls.{call_of}
use Rattle.meaning_tasks.specs.Settle.{stepped_own, settled, worst_of, messages_of}
use Rattle.meaning_tasks.specs.Maps.{IsResultMap}
use Rattle.meaning_derive.specs.Derive.{Outcomes, outcome_for}

-- ---- what was seen

abbrev pub role_of : Role → tasks.Role
role_of Needed = tasks.needed
role_of Reached = tasks.reached

-- the need that a dep is
abbrev pub need_of : FactDep → tasks.Need
need_of d = record { node = d.node; role = role_of d.role }

abbrev pub needs_in : List FactDep → List tasks.Need
needs_in deps = map need_of deps

-- what was seen of a node
abbrev pub known_of_deps : List FactDep → Known
known_of_deps [] n = None
known_of_deps (d ∷ deps) n = cond (node_eq.eq n d.node) (Some d.value) (known_of_deps deps n)

abbrev pub status_seen : Option Value → Status
status_seen None = Abort
status_seen (Some v) = Ok

-- the view that stands for it: at Ok with the value, or at Abort, without messages
abbrev pub view_seen : Option Value → View
view_seen value = record { value = value; status = status_seen value; messages = [] }

abbrev pub results_seen : List FactDep → Results
results_seen deps n = option_map view_seen (known_of_deps deps n)

-- deps with one node have seen the same
abbrev pub DepsAreAlike : List FactDep → Type 0
DepsAreAlike deps = (d e : FactDep) → IsIn d deps → IsIn e deps → d.node ≡ e.node → d.value ≡ e.value

-- ---- truth

-- A record is true beside these outcomes: by what was seen its deps are the needs of its node, each in its role, and what it says is what the
-- node settles to with the outcome of its call, which has one.
pub record RecordIsTrue (g : Graph) (outcomes : Outcomes) (fact : Fact) : Type 0 where
  pub fits : Fits g fact.node
  pub stepped : fact.node.steps ≢ []
  pub alike : DepsAreAlike fact.deps
  pub results : IsResultMap g (results_seen fact.deps)
  pub names : List Text
  pub reached : ReachedNames g fact.node (results_seen fact.deps) names
  pub needs : needs_in fact.deps ≡ task_needs (task_of g fact.node) (values_of (results_seen fact.deps)) names
  pub outcome : Option Outcome
  pub given : outcome_for outcomes (call_of g (task_of g fact.node) (values_of (results_seen fact.deps)) names) ≡ Some outcome
  pub own : Own
  pub own_is : own ≡ stepped_own (label_of g fact.node) (task_of g fact.node) (values_of (results_seen fact.deps)) outcome
  pub value : fact.value ≡ (settled (results_seen fact.deps) own (counted_needs (task_of g fact.node) (values_of (results_seen fact.deps)) names)).value
  pub status : fact.own_status ≡ own.status
  pub messages : fact.own_messages ≡ own.messages

-- ---- what it gives over other results

-- each dep has the value that was seen, or is at Abort where none was
abbrev pub IsAsSeen : Results → Fact → Type 0
IsAsSeen seen fact = (d : FactDep) → IsIn d fact.deps → values_of seen d.node ≡ Some d.value

-- the deps that add status and messages
abbrev pub counted_in : List FactDep → List Node
counted_in deps = nodes_of (filter (λ need. is_counted need.role) (needs_in deps))

-- its value, and the status and the messages of now
abbrev pub view_of_record : Results → Fact → View
view_of_record seen fact = record {
  value = fact.value;
  status = worst_of seen fact.own_status (counted_in fact.deps);
  messages = inherit (messages_of seen (counted_in fact.deps)) fact.own_messages;
}
