use Rattle.std.proofs.Common.{◌≡◌, inr, refl, sym, ◌∙◌, subst}
use Rattle.std.specs.Prelude.{Bool, IfSome}
use Rattle.object_values.specs.declared.nodes.Node.{Node}
use Rattle.meaning_tasks.specs.Reached.{Reached}
use Rattle.meaning_tasks.specs.Tasks.{ToolTask, tool_task, tooled}
use Rattle.meaning_tasks.specs.Needs.{Known, values_of, own_lines, other_lines}
use Rattle.node_tasks.specs.declared.ahead.Level.{Level}
use Rattle.node_tasks.specs.Ahead.{IsReachedScan}
use Rattle.node_tasks.proofs.AheadLemmas.{on_ok, led_added, source_in_sight, scan_in_sight, put_source, put_scan}
use Rattle.node_tasks.proofs.ahead.look.Goals as goal

pub returns-then-not-has-clause-level : goal.returns-then-not-has-clause-level
returns-then-not-has-clause-level g c m =
    let t : ToolTask = tool_task c.args.planned.now c.args.node.now m c.args.tool.now in
    let known : Known = values_of (g.R.Results.results c.args.seen.now) in
    let before : Node → Bool = g.V.VisitedNodes.visited c.args.visited.now in
    let after : Level = record { untold = c.push.new.self; scans = c.args.level.now.scans; sources = c.push-then-not-has.new.self } in
    let reached : Reached (own_lines (tooled t) known) (other_lines (tooled t) known) c.as_slice-name.result.now =
    subst (Reached (own_lines (tooled t) known) (other_lines (tooled t) known)) (sym c.as_slice-name.ensures.bytes) (c.requires.led m c.in-Some.name.now c.in-Some.ensures.one) in
    let sight = source_in_sight t known c.requires.valued c.as_slice-name.result.now before c.in_ok-source.source reached c.in_ok-source.ensures (sym c.has.ensures ∙ c.if-not-has.true) in
    on_ok c.push-then-not-has.result _ _ c.push-then-not-has.ensures.ok (λ more. put_source (tooled t) known before c.args.level.now after c.in_ok-source.source sight refl more)

pub returns-in-Some-2-clause-level : goal.returns-in-Some-2-clause-level
returns-in-Some-2-clause-level g c m =
    let t : ToolTask = tool_task c.args.planned.now c.args.node.now m c.args.tool.now in
    let known : Known = values_of (g.R.Results.results c.args.seen.now) in
    let before : Node → Bool = g.V.VisitedNodes.visited c.args.visited.now in
    let after : Level = record { untold = c.push-in-Some-2.new.self; scans = c.push-in-Some-2-2.new.self; sources = c.args.level.now.sources } in
    let reached : Reached (own_lines (tooled t) known) (other_lines (tooled t) known) c.as_slice-name.result.now =
    subst (Reached (own_lines (tooled t) known) (other_lines (tooled t) known)) (sym c.as_slice-name.ensures.bytes) (c.requires.led m c.in-Some.name.now c.in-Some.ensures.one) in
    let brought : IsReachedScan t known c.as_slice-name.result.now before c.in-Some-2.scan =
    subst (λ o. IfSome o (IsReachedScan t known c.as_slice-name.result.now before)) c.in-Some-2.is (c.in_ok-scan.ensures m) in
    let sight = scan_in_sight t known c.requires.valued c.as_slice-name.result.now before c.in-Some-2.scan reached brought in
    on_ok c.push-in-Some-2-2.result _ _ c.push-in-Some-2-2.ensures.ok (λ more. put_scan (tooled t) known before c.args.level.now after c.in-Some-2.scan sight refl more)

pub returns-clause-on : goal.returns-clause-on
returns-clause-on g c m =
    let t : ToolTask = tool_task c.args.planned.now c.args.node.now m c.args.tool.now in
    let known : Known = values_of (g.R.Results.results c.args.seen.now) in
    let reached : Reached (own_lines (tooled t) known) (other_lines (tooled t) known) c.as_slice-name.result.now =
    subst (Reached (own_lines (tooled t) known) (other_lines (tooled t) known)) (sym c.as_slice-name.ensures.bytes) (c.requires.led m c.in-Some.name.now c.in-Some.ensures.one) in
    led_added c.args.node.now.source (tooled t) known c.add_all.result c.args.names.now c.add_all.new.self c.as_slice-name.result.now c.as_slice.result.now (inr reached)
    (c.as_slice.ensures ∙ c.in_ok-lines.ensures m) c.add_all.ensures.ok c.add_all.ensures.err
