use Rattle.odin_engine.proofs.AskedLemmas.{numbered, unread_refused}
use Rattle.odin_engine.proofs.asked.node_of_text.Goals as goal

pub node_by-requires : goal.node_by-requires
node_by-requires c = record { few = numbered c.args.text.now c.in-Ok.expression c.in-Ok.ensures.ok }

pub returns-in-Err-clause-err : goal.returns-in-Err-clause-err
returns-in-Err-clause-err c = unread_refused c.args.planned.now c.args.text.now c.in-Err.fault c.no_expression.result c.in-Err.ensures.err c.no_expression.ensures
