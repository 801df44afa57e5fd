use Rattle.std.proofs.Common.{◌∙◌, ap, refl, List, length}
use Rattle.std.proofs.lemmas.List.{length-map}
use Rattle.meaning_graph.specs.Graphs.{Text}
use Rattle.meaning_tasks.specs.Tasks.{extra_led, tool_task}
use Rattle.meaning_tasks.specs.Needs.{values_of}
use Rattle.meaning_tasks.specs.Calls.{tool_call}
use Rattle.task_needs.specs.Counting.{nodes_in}
use Rattle.node_tasks.proofs.CallLemmas.{without_tool, not_run, is_called, few_led}
use Rattle.node_tasks.proofs.calling.call_in.Goals as goal

pub returns-in_default : goal.returns-in_default
returns-in_default g c =
    without_tool c.args.planned.now c.args.node.now (g.R.Results.results c.args.seen.now) c.args.needed.now.names c.requires.needed.reached _ refl (rw c.graph-graph.ensures at c.in_default.ensures.none)

pub returns-then-not-is_run : goal.returns-then-not-is_run
returns-then-not-is_run g c =
    let seen = g.R.Results.results c.args.seen.now in
    not_run c.args.planned.now c.args.node.now seen c.args.needed.now.names c.requires.needed.reached (tool_task c.args.planned.now c.args.node.now c.in-Some.maker.now c.in-Some.tool.now) (rw c.graph-graph.ensures at c.in-Some.ensures.some)
    c.is_run.result c.as_slice.result.now (nodes_in (values_of seen) c.args.needed.now.counted) (c.as_slice.ensures ∙ c.in_ok-extras.ensures) c.requires.needed.counted c.is_run.ensures c.if-not-is_run.true

pub tool_call-requires-clause-few : goal.tool_call-requires-clause-few
tool_call-requires-clause-few g c =
    few_led c.args.planned.now c.args.node.now (tool_task c.args.planned.now c.args.node.now c.in-Some.maker.now c.in-Some.tool.now) c.as_slice-2.result.now c.requires.spellable (rw c.graph-graph.ensures at c.in-Some.ensures.some)
    (ap length (c.as_slice-2.ensures ∙ c.in_ok-extras.ensures) ∙ length-map c.in-Some.tool.now.extras (extra_led c.args.planned.now c.args.node.now))

pub returns : goal.returns
returns g c =
    let seen = g.R.Results.results c.args.seen.now in
    let t = tool_task c.args.planned.now c.args.node.now c.in-Some.maker.now c.in-Some.tool.now in
    is_called c.args.planned.now c.args.node.now seen c.args.needed.now.names c.requires.needed.reached t (rw c.graph-graph.ensures at c.in-Some.ensures.some)
    c.is_run.result c.as_slice.result.now (nodes_in (values_of seen) c.args.needed.now.counted) (c.as_slice.ensures ∙ c.in_ok-extras.ensures) c.requires.needed.counted c.is_run.ensures c.if-not-is_run.false
    c.in_ok-call.call ((rw c.graph-graph.ensures at c.in_ok-call.ensures) ∙ ap (λ (names : List Text). tool_call c.args.planned.now t (values_of seen) names) c.as_slice-3.ensures)
