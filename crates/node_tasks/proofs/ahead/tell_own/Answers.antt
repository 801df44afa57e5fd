use Rattle.std.proofs.Common.{◌≡◌, ◌+◌, inl, sym, ◌∙◌, subst}
use Rattle.std.specs.Prelude.{IfSome}
use Rattle.meaning_tasks.specs.Tasks.{ToolTask, tool_task, tooled}
use Rattle.meaning_tasks.specs.Needs.{Known, values_of}
use Rattle.node_tasks.specs.Ahead.{AreLed, IsUnseen}
use Rattle.node_tasks.proofs.AheadLemmas.{led_on, led_added, own_in_sight}
use Rattle.node_tasks.proofs.ahead.tell_own.Goals as goal

pub returns-in-Some-clause-scan : goal.returns-in-Some-clause-scan
returns-in-Some-clause-scan g c m =
    let t : ToolTask = tool_task c.args.planned.now c.args.node.now m c.args.tool.now in
    let known : Known = values_of (g.R.Results.results c.args.seen.now) in
    let before = g.V.VisitedNodes.visited c.args.visited.now in
    let unseen = subst (λ o. IfSome o (IsUnseen before (t.scan c.as_slice-root.result.now))) c.in-Some.is c.in_ok-scan.ensures in
    own_in_sight t known c.requires.valued before c.in-Some.scan (subst (λ x. IsUnseen before (t.scan x) c.in-Some.scan) c.as_slice-root.ensures unseen)

pub returns-in_err-add_all-clause-led : goal.returns-in_err-add_all-clause-led
returns-in_err-add_all-clause-led g c m = subst (AreLed (tooled (tool_task c.args.planned.now c.args.node.now m c.args.tool.now)) (values_of (g.R.Results.results c.args.seen.now))) (sym c.in_err-add_all.ensures.err) (c.requires.led m)

pub returns-clause-led : goal.returns-clause-led
returns-clause-led g c m =
    let t : ToolTask = tool_task c.args.planned.now c.args.node.now m c.args.tool.now in
    let known : Known = values_of (g.R.Results.results c.args.seen.now) in
    led_on (tooled t) known c.args.ahead.now.names c.add_all.new.self (c.requires.led m)
    (led_added c.args.node.now.source (tooled t) known c.add_all.result c.args.ahead.now.names c.add_all.new.self c.as_slice-root.result.now c.as_slice.result.now (inl c.as_slice-root.ensures)
    (c.as_slice.ensures ∙ c.in_ok-lines.ensures m) c.add_all.ensures.ok c.add_all.ensures.err)
