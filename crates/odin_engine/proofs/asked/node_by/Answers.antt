use Rattle.odin_engine.proofs.AskedLemmas.{asks, none_refused}
use Rattle.odin_engine.proofs.asked.node_by.Goals as goal

pub returns-in-Ok-clause-ok : goal.returns-in-Ok-clause-ok
returns-in-Ok-clause-ok c = asks c.args.planned.now c.args.expression c.in-Ok.node c.in-Ok.ensures.ok c.in-Ok.ensures.fits

pub returns-in-Err-clause-err : goal.returns-in-Err-clause-err
returns-in-Err-clause-err c = none_refused c.args.planned.now c.args.expression c.in-Err.fault c.no_node.result c.in-Err.ensures.err c.no_node.ensures
