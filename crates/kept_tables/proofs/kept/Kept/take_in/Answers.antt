use Rattle.kept_tables.proofs.kept.Kept.take_in.Goals as goal

pub returns-in-Kept-clause-none : goal.returns-in-Kept-clause-none
returns-in-Kept-clause-none c = rw c.in-Kept.is c.take_call.ensures.none

pub returns-in-Node-clause-none : goal.returns-in-Node-clause-none
returns-in-Node-clause-none c = rw c.in-Node.is c.take_node.ensures.none
