use Rattle.std.proofs.Common.{◌∙◌, ap, ◌++◌, map}
use Rattle.meaning_tasks.specs.Nodes.{source_node}
use Rattle.meaning_tasks.specs.Needs.{Known, values_of}
use Rattle.task_needs.specs.Counting.{nodes_in}
use Rattle.node_tasks.proofs.NameLemmas.{ok_on}
use Rattle.node_tasks.proofs.NeedLemmas.{needs_are}
use Rattle.node_tasks.proofs.needed.Needed.nodes.Goals as goal

pub returns : goal.returns
returns g c graph node is =
    let known : Known = values_of (g.R.Results.results c.args.seen.now) in
    ok_on c.listed.result _ _ c.listed.ensures
    (λ needs e. needs_are graph node (g.R.Results.results c.args.seen.now) c.args.self.now.names (nodes_in known c.args.self.now.counted) needs is.reached is.counted
    (e ∙ ap (λ l. nodes_in known c.args.self.now.counted ++ map source_node l) c.as_slice.ensures))
