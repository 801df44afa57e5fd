use Rattle.std.proofs.Common.{[]}
use Rattle.meaning_graph.specs.Going.{ending, expect}
use Rattle.dg_reader.specs.declared.cursor.Wanted.TheVariants.{Id}
use Rattle.dg_reader.specs.Reads.{way_classes}
use Rattle.dg_reader.proofs.WalkLemmas.{at_stop, halts_behind, leads_found}
use Rattle.dg_reader.proofs.DeclLemmas.{plain_read}
use Rattle.dg_reader.proofs.cursor.Cursor.plain.Goals as goal

pub returns-in_err-from-clause-err : goal.returns-in_err-from-clause-err
returns-in_err-from-clause-err c =
    at_stop _ c.in_err-from.field-0.0 _ c.from_residual-in_err-from.ensures.1 (halts_behind c.in_err-from.field-0.0 _ c.args.self.now (expect (way_classes []) ending) c.take.new.self c.way.new.self (leads_found Id c.in_ok-name.name c.args.self.now c.take.new.self c.in_ok-name.ensures.ok (way_classes []) ending) (c.in_err-from.ensures.err [] ending))

pub returns-clause-ok : goal.returns-clause-ok
returns-clause-ok c = plain_read c.args.make c.in_ok-name.name c.in_ok-from.from c.in_ok-from.to c.args.self.now c.take.new.self c.way.new.self c.in_ok-name.ensures.ok c.in_ok-from.ensures.ok
