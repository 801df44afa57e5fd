use Rattle.dg_reader.proofs.DeclLemmas.{param_read}
use Rattle.dg_reader.proofs.cursor.Cursor.param.Goals as goal

pub returns-clause-ok : goal.returns-clause-ok
returns-clause-ok c = param_read c.in_ok-id.id c.args.self.now c.take.new.self c.in_ok-id.ensures.ok
