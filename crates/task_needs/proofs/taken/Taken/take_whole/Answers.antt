use Rattle.std.proofs.Common.{List, flat_map, arith, subst}
use Rattle.std.proofs.lemmas.List.{take_all}
use Rattle.object_values.specs.declared.nodes.Node.{Node}
use Rattle.meaning_tasks.specs.Needs.{values_of, with_elements}
use Rattle.task_needs.specs.TakingOver.{TakesOver}
use Rattle.task_needs.proofs.TakenLemmas.{takes_none, takes_next_whole}
use Rattle.task_needs.proofs.taken.Taken.take_whole.Goals as goal

pub loop-node-init : goal.loop-node-init
loop-node-init g c = takes_none (g.R.Results.results c.args.seen.now) c.args.self.now

pub loop-node-preserved : goal.loop-node-preserved
loop-node-preserved g c =
    takes_next_whole (g.R.Results.results c.args.seen.now) c.args.nodes.now c.loop-node.node-index c.node-item.result c.loop-node-test.true c.node-item.is c.args.self.now c.loop-node.self c.take_with_elements.new.self c.loop-node.invariant
    c.in_ok-take_with_elements.ensures

pub returns : goal.returns
returns g c =
    subst (λ (l : List Node). TakesOver (g.R.Results.results c.args.seen.now) (flat_map (with_elements (values_of (g.R.Results.results c.args.seen.now))) l) c.args.self.now c.loop-node.self)
    (take_all c.loop-node.node-index c.args.nodes.now (omega arith)) c.loop-node.invariant
