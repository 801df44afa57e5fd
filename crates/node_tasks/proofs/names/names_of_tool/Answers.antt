use Rattle.std.proofs.Common.{◌∙◌, ap, List}
use Rattle.meaning_graph.specs.Graphs.{Text}
use Rattle.meaning_tasks.specs.Tasks.{ToolTask, tool_task, tooled}
use Rattle.meaning_tasks.specs.Needs.{Results, Known, values_of, own_lines, other_lines}
use Rattle.dynamic_inputs.specs.Closures.{with_lines}
use Rattle.dynamic_inputs.specs.Laws.{with_own}
use Rattle.node_tasks.proofs.NameLemmas.{ok_on, next_tells, tool_names}
use Rattle.node_tasks.proofs.ListedLemmas.{any_maker, tool_falls}
use Rattle.node_tasks.proofs.names.names_of_tool.Goals as goal

pub told-smaller : goal.told-smaller
told-smaller g c =
    let seen : Results = g.R.Results.results c.args.seen.now in
    tool_falls c.args.planned.now c.args.node.now c.args.tool.now seen (g.R.Results.nodes c.args.seen.now) (g.R.Results.finite c.args.seen.now) c.told.closure c.add.new.self c.in-Some-wanted.name.now c.in_ok-lines.lines
    (c.told.invariant any_maker) c.in-Some-wanted.ensures.first c.in-Some-wanted.ensures.some (c.in_ok-add.ensures.ok ∙ ap (with_lines c.told.closure) c.as_slice-in-Some-wanted-2.ensures)

pub told-preserved : goal.told-preserved
told-preserved g c m =
    let known : Known = values_of (g.R.Results.results c.args.seen.now) in
    let own : List Text = own_lines (tooled (tool_task c.args.planned.now c.args.node.now m c.args.tool.now)) known in
    let lines : Text → List Text = other_lines (tooled (tool_task c.args.planned.now c.args.node.now m c.args.tool.now)) known in
    next_tells c.args.node.now.source own lines c.told.closure c.add.new.self c.in-Some-wanted.name.now c.in_ok-lines.lines (c.told.invariant m)
    c.in-Some-wanted.ensures.first
    (c.in_ok-lines.ensures m ∙ ap (with_own c.args.node.now.source own lines) c.as_slice-in-Some-wanted.ensures.bytes)
    (c.in_ok-add.ensures.ok ∙ ap (with_lines c.told.closure) c.as_slice-in-Some-wanted-2.ensures)

pub returns : goal.returns
returns g c m =
    let t : ToolTask = tool_task c.args.planned.now c.args.node.now m c.args.tool.now in
    let known : Known = values_of (g.R.Results.results c.args.seen.now) in
    ok_on c.names.result _ _ c.names.ensures (λ names a. tool_names t known c.requires.valued c.told.closure names (c.told.invariant m) c.in_default-wanted.ensures.none a)
