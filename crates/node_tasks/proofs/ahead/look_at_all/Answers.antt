use Rattle.std.proofs.Common.{◌≡◌, ◌+◌, ◌<◌, ◌∙◌, subst}
use Rattle.meaning_tasks.specs.Tasks.{tool_task, tooled}
use Rattle.meaning_tasks.specs.Needs.{values_of}
use Rattle.node_tasks.proofs.AheadLemmas.{led_on}
use Rattle.node_tasks.proofs.ListedLemmas.{any_maker, left_falls}
use Rattle.node_tasks.proofs.ahead.look_at_all.Goals as goal

pub returns-in_err-look-clause-led : goal.returns-in_err-look-clause-led
returns-in_err-look-clause-led g c m = led_on (tooled (tool_task c.args.planned.now c.args.node.now m c.args.tool.now)) (values_of (g.R.Results.results c.args.seen.now)) c.loop-place.names c.look.new.names (c.loop-place.invariant.led m) (c.look.ensures.on m)

pub loop-place-preserved : goal.loop-place-preserved
loop-place-preserved g c = record {
  led = λ m. led_on (tooled (tool_task c.args.planned.now c.args.node.now m c.args.tool.now)) (values_of (g.R.Results.results c.args.seen.now)) c.loop-place.names c.look.new.names (c.loop-place.invariant.led m) (c.look.ensures.on m);
  level = λ m. c.in_ok-look.ensures.level m (c.loop-place.invariant.level m);
}

pub returns-in_err-look-2-clause-led : goal.returns-in_err-look-2-clause-led
returns-in_err-look-2-clause-led g c m = led_on (tooled (tool_task c.args.planned.now c.args.node.now m c.args.tool.now)) (values_of (g.R.Results.results c.args.seen.now)) c.names.names c.look-in-names.new.names (c.names.invariant.led m) (c.look-in-names.ensures.on m)

pub names-smaller : goal.names-smaller
names-smaller g c =
    left_falls c.args.planned.now c.args.node.now c.args.tool.now (g.R.Results.results c.args.seen.now) (g.R.Results.nodes c.args.seen.now) (g.R.Results.finite c.args.seen.now) c.names.names c.look-in-names.new.names c.names.place
    (c.look-in-names.ensures.on any_maker) (subst (λ k. c.names.place < k) c.len.ensures c.names-test.true)

pub names-preserved : goal.names-preserved
names-preserved g c = record {
  led = λ m. led_on (tooled (tool_task c.args.planned.now c.args.node.now m c.args.tool.now)) (values_of (g.R.Results.results c.args.seen.now)) c.names.names c.look-in-names.new.names (c.names.invariant.led m) (c.look-in-names.ensures.on m);
  level = λ m. c.in_ok-look-2.ensures.level m (c.names.invariant.level m);
}
