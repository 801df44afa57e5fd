use Rattle.std.proofs.Common.{◌≡◌, ◌+◌, refl, ◌∙◌, subst}
use Rattle.std.specs.Prelude.{IfSome}
use Rattle.meaning_tasks.specs.Tasks.{tool_task, tooled}
use Rattle.meaning_tasks.specs.Needs.{Known, values_of}
use Rattle.node_tasks.specs.declared.ahead.Level.{Level}
use Rattle.node_tasks.specs.Ahead.{IsInSight}
use Rattle.node_tasks.proofs.AheadLemmas.{no_level, put_scan}
use Rattle.node_tasks.proofs.ahead.follow.Goals as goal

pub returns-in-Some-clause-level : goal.returns-in-Some-clause-level
returns-in-Some-clause-level g c m =
    let t = tooled (tool_task c.args.planned.now c.args.node.now m c.args.tool.now) in
    let known : Known = values_of (g.R.Results.results c.args.seen.now) in
    let before = g.V.VisitedNodes.visited c.args.visited.now in
    let after : Level = record { untold = c.new-level.result.untold; scans = c.push.new.self; sources = c.new-level.result.sources } in
    let sight : IsInSight t known before c.in-Some.scan = subst (λ o. IfSome o (IsInSight t known before)) c.in-Some.is (c.in_ok-scan.ensures.scan m) in
    put_scan t known before c.new-level.result after c.in-Some.scan sight refl c.in_ok-push.ensures.ok (no_level t known before c.new-level.result c.new-level.ensures)
