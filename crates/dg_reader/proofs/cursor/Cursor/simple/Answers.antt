use Rattle.dg_reader.proofs.DeclLemmas.{simple_read}
use Rattle.dg_reader.proofs.cursor.Cursor.simple.Goals as goal

pub returns-clause-ok : goal.returns-clause-ok
returns-clause-ok c = simple_read c.in_ok-supers.supers c.args.self.now c.supers.new.self c.in_ok-supers.ensures.ok
