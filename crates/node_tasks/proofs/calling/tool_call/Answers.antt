use Rattle.meaning_tasks.specs.Tasks.{tool_task}
use Rattle.meaning_tasks.specs.Needs.{values_of}
use Rattle.node_tasks.proofs.CallLemmas.{call_is}
use Rattle.node_tasks.proofs.NameLemmas.{ok_on}
use Rattle.node_tasks.proofs.calling.tool_call.Goals as goal

pub returns : goal.returns
returns g c =
    ok_on c.made_call.result _ _ c.made_call.ensures
    (λ call e. call_is c.args.graph.now (tool_task c.args.graph.now c.args.node.now c.args.maker.now c.args.tool.now) (values_of (g.R.Results.results c.args.seen.now)) c.args.names.now c.in_ok-base.base c.args.extras.now c.in_ok-parts.parts call
    c.in_ok-base.ensures c.requires.led c.in_ok-parts.ensures e)
