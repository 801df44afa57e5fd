-- What a node settles to, in whole.
use Rattle.std.proofs.Common.{◌≡◌, ◌∙◌, ◌++◌, ◌&&◌, ℕ, true, Bool, cond, List, [], sym, ap, length, Result, Ok, Err}
use Rattle.std.proofs.lemmas.List.{length-map}
use Rattle.std.specs.Prelude.{Option, Some, None, IfOk}
use Rattle.object_values.specs.declared.nodes.Node.{Node}
use Rattle.object_values.specs.declared.graph.ToolDecl.{ToolDecl}
use Rattle.object_values.specs.declared.graph.MakerDecl.{MakerDecl}
use Rattle.object_values.specs.declared.calls.Outcome.{Outcome}
use Rattle.meaning_graph.specs.Graphs.{Text, Graph, kind_named}
use Rattle.meaning_tasks.specs.Labels.{label_of}
use Rattle.meaning_tasks.specs.Nodes.{source_node}
use Rattle.meaning_tasks.specs.Tasks.{Own, tooled, is_compound, tool_task, task_of}
use Rattle.meaning_tasks.specs.Needs.{Results, Known, values_of, counted_needs, reached_needs, ReachedNames}
use Rattle.meaning_tasks.specs.Settle.{messages_of, outcome_own, stepped_own, settled, worst_of}
use Rattle.meaning_tasks.specs.Calls.{all_valued}
use Rattle.meaning_tasks.specs.Values.{inherit}
use Rattle.object_values.specs.declared.views.View.{View}
use Rattle.odin_nodes.proofs.Lemmas.{inherit_all}
use Rattle.task_needs.specs.declared.taken.Taken.{Taken}
use Rattle.task_needs.specs.TakingOver.{TakesOver}
use Rattle.node_tasks.specs.declared.settling.Settled.{Settled}
use Rattle.node_tasks.specs.Settling.{SettlesSo}
use Rattle.node_tasks.proofs.NeedLemmas.{sources_are}

-- what came of the tool is what the node gives
pub run_is : (g : Graph) (n : Node) (m : MakerDecl) (tool : ToolDecl) (label : Text) (known : Known) (o : Outcome) (given : Option Outcome) → task_of g n ≡ tooled (tool_task g n m tool) → given ≡ Some o
    → outcome_own label (is_compound (kind_named g m.to)) [] (Some o) ≡ stepped_own label (task_of g n) known given
run_is g n m tool label known o given e q = sym (ap (λ t. stepped_own label t known given) e ∙ ap (λ given. stepped_own label (tooled (tool_task g n m tool)) known given) q)

module _ (g : Graph) (n : Node) (seen : Results) (outcome : Option Outcome) (names : List Text) (counted : List Node) (own : Own) (reached : ReachedNames g n seen names) (c : counted ≡ counted_needs (task_of g n) (values_of seen) names) (o : own ≡ stepped_own (label_of g n) (task_of g n) (values_of seen) outcome) where
  -- all reached names are reached sources
  sources_counted : length names ≡ length (reached_needs (task_of g n) (values_of seen) names)
  sources_counted = sym (ap length (sources_are (task_of g n) (values_of seen) names reached) ∙ length-map names source_node)

  settles_so : (whole : Settled) → whole.view ≡ settled seen own counted → whole.own_status ≡ own.status → whole.own_messages ≡ own.messages → whole.reached ≡ length names → SettlesSo g n seen outcome whole
  settles_so whole view status messages count = record {
    own = own;
    settles = record {
      names = names;
      reached = reached;
      own = o;
      view = view ∙ ap (settled seen own) c;
      sources = count ∙ sources_counted;
    };
    status = status;
    messages = messages;
  }

  pub settles_if_ok : {E : Type 0} (count : ℕ) → count ≡ length names → (r : Result Settled E) → IfOk r (λ whole. whole.view ≡ settled seen own counted) → IfOk r (λ whole. whole.own_status ≡ own.status) → IfOk r (λ whole. whole.own_messages ≡ own.messages) → IfOk r (λ whole. whole.reached ≡ count)
      → IfOk r (SettlesSo g n seen outcome)
  settles_if_ok count k (Ok whole) view status messages reached_is = settles_so whole view status messages (reached_is ∙ k)
  settles_if_ok count k (Err e) view status messages reached_is = tt

-- what the node itself gives, over what was taken over from its needs
module _ (seen : Results) (own : Own) (nodes : List Node) (first taken : Taken) (new : first ≡ record { valued = true; status = own.status; messages = [] }) (over : TakesOver seen nodes first taken) where
  is_over : (view : View) → view.value ≡ cond taken.valued own.value None → view.status ≡ taken.status → view.messages ≡ inherit taken.messages own.messages → view ≡ settled seen own nodes
  is_over view value status messages =
      let v : view.value ≡ cond (all_valued (values_of seen) nodes) own.value None =
      value ∙ ap (λ (b : Bool). cond b own.value None) (over.valued ∙ ap (λ (t : Taken). t.valued && all_valued (values_of seen) nodes) new) in
      let s : view.status ≡ worst_of seen own.status nodes = status ∙ over.status ∙ ap (λ (t : Taken). worst_of seen t.status nodes) new in
      let m : view.messages ≡ inherit (messages_of seen nodes) own.messages =
      messages ∙ over.messages own.messages ∙ ap (λ (t : Taken). inherit t.messages (messages_of seen nodes ++ own.messages)) new ∙ inherit_all (messages_of seen nodes) own.messages in
      λ i. record { value = v i; status = s i; messages = m i }

  pub over_if_ok : {E : Type 0} (r : Result Settled E) → IfOk r (λ made. made.view.value ≡ cond taken.valued own.value None) → IfOk r (λ made. made.view.status ≡ taken.status) → IfOk r (λ made. made.view.messages ≡ inherit taken.messages own.messages) → IfOk r (λ made. made.view ≡ settled seen own nodes)
  over_if_ok (Ok made) value status messages = is_over made.view value status messages
  over_if_ok (Err e) value status messages = tt
