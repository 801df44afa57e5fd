use Rattle.dg_reader.proofs.WriteLemmas.{decl_written}
use Rattle.dg_reader.proofs.writer.Writer.line.Goals as goal

pub returns-clause-out : goal.returns-clause-out
returns-clause-out c = decl_written c.args.decl.now c.args.self.now c.decl.new.self c.token.new.self c.push.new.self c.requires c.in_ok-decl.ensures c.in_ok-token.ensures c.in_ok-push.ensures.ok
