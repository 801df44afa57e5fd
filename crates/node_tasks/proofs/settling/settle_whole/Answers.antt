use Rattle.std.proofs.Common.{◌∙◌}
use Rattle.meaning_tasks.specs.Needs.{Known, values_of}
use Rattle.task_needs.specs.Counting.{nodes_in}
use Rattle.node_tasks.proofs.SettleLemmas.{settles_if_ok}
use Rattle.node_tasks.proofs.settling.settle_whole.Goals as goal

pub returns : goal.returns
returns g c =
    let known : Known = values_of (g.R.Results.results c.args.seen.now) in
    let needed = c.args.needed.now in
    settles_if_ok c.args.planned.now c.args.node.now (g.R.Results.results c.args.seen.now) _ needed.names (nodes_in known needed.counted) c.in_ok-own.own c.requires.needed.reached c.requires.needed.counted
    c.in_ok-own.ensures c.in_ok-reached.reached (c.in_ok-reached.ensures ∙ c.len.ensures) c.over_needs.result c.over_needs.ensures.view c.over_needs.ensures.status
    c.over_needs.ensures.messages c.over_needs.ensures.reached
