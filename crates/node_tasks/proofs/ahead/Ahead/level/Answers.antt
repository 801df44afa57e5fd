use Rattle.std.proofs.Common.{◌≡◌, ◌+◌, sym, ◌∙◌, subst}
use Rattle.std.specs.Prelude.{IfOk}
use Rattle.meaning_tasks.specs.Tasks.{tool_task, tooled}
use Rattle.meaning_tasks.specs.Needs.{Known, values_of}
use Rattle.node_tasks.specs.Ahead.{AreInSight, AreLed}
use Rattle.node_tasks.proofs.ahead.Ahead.level.Goals as goal

pub follow-requires-clause-led : goal.follow-requires-clause-led
follow-requires-clause-led g c m =
    subst (λ t. AreLed t (values_of (g.R.Results.results c.args.seen.now)) c.args.self.now.names) (rw c.graph.ensures at c.in-Some.ensures.some) c.requires.ahead

pub returns-in_err-level-clause-ahead : goal.returns-in_err-level-clause-ahead
returns-in_err-level-clause-ahead g c =
    subst (λ t. AreLed t (values_of (g.R.Results.results c.args.seen.now)) c.follow.new.ahead.names) (sym (rw c.graph.ensures at c.in-Some.ensures.some)) (c.follow.ensures.led c.in-Some.field-0-0.now)

pub returns-clause-ahead : goal.returns-clause-ahead
returns-clause-ahead g c =
    subst (λ t. AreLed t (values_of (g.R.Results.results c.args.seen.now)) c.follow.new.ahead.names) (sym (rw c.graph.ensures at c.in-Some.ensures.some)) (c.follow.ensures.led c.in-Some.field-0-0.now)

pub returns-clause-level : goal.returns-clause-level
returns-clause-level g c =
    let known : Known = values_of (g.R.Results.results c.args.seen.now) in
    let visited = g.V.VisitedNodes.visited c.args.visited.now in
    subst (λ t. IfOk c.in_order.result (AreInSight t known visited)) (sym (rw c.graph.ensures at c.in-Some.ensures.some))
    (c.in_order.ensures (tooled (tool_task c.args.planned.now c.args.node.now c.in-Some.field-0-0.now c.in-Some.tool.now)) known visited (c.in_ok-level.ensures.level c.in-Some.field-0-0.now))
