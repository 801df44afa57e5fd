use Rattle.node_tasks.proofs.needed.needs.Goals as goal

pub returns : goal.returns
returns g c = c.nodes.ensures c.args.graph.now c.args.node.now (rw c.new.ensures at c.in_ok-needed.ensures)
