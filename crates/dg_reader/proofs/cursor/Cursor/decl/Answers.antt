use Rattle.std.proofs.Common.{[]}
use Rattle.meaning_graph.specs.Going.{ending, start, expect}
use Rattle.dg_reader.proofs.WalkLemmas.{at_stop, halts_here}
use Rattle.dg_reader.proofs.StageLemmas.{stops_ending}
use Rattle.dg_reader.proofs.DeclLemmas.{decl_read}
use Rattle.dg_reader.proofs.cursor.Cursor.decl.Goals as goal

pub returns-in_err-require-clause-err : goal.returns-in_err-require-clause-err
returns-in_err-require-clause-err c =
    at_stop _ c.in_err-require.field-0.0 _ c.from_residual-in_err-require.ensures.1 (halts_here c.in_err-require.field-0.0 start c.args.self.now (expect [] ending) c.head.new.self c.require.new.self (c.in_ok-decl.ensures.ok.leads) (stops_ending c.head.new.self c.in_err-require.ensures.err.1) c.in_err-require.ensures.err.0)

pub returns-clause-ok : goal.returns-clause-ok
returns-clause-ok c = decl_read c.in_ok-decl.decl c.args.self.now c.head.new.self c.require.new.self c.in_ok-decl.ensures.ok c.in_ok-require.ensures.ok
